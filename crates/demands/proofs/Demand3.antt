-- Demand 3, each sentence with its proof, from crate `draw_theory`.
use Prim.Native.Nat.{ℕ, ◌<◌}
use mathlib.Core.List.{List}
use lib.ListN.{length, get_or}
use Rattle.draw_theory.proofs.Demand3.{chain-exactly, chain-counted, chain-hashes, chain-ends, chain-nodes, chain-list, clash-exactly, clash-inputs}
use Rattle.draw_theory.proofs.Demand3.{drawn-planned, refused-exactly, clash-untouched, refused-untouched, chain-inputs}
use Rattle.demands.specs.Demand3.{Drawn, Demand3}

drawn-from : (bytes statement : List ℕ) (n t : ℕ) (list : List ℕ) → ((j : ℕ) → get_or bytes j 0 < 256) → Drawn bytes statement n t list
drawn-from bytes statement n t list small =
    record {
      chain_exactly = chain-exactly bytes statement n t small (length list);
      chain =
          λ count drawn.
          record {
            counted = chain-counted bytes statement n t small list count drawn;
            hashes = chain-hashes bytes statement n t small list count drawn;
            ends = chain-ends bytes statement n t small list count drawn;
            nodes = chain-nodes bytes statement n t small list count drawn;
            codes = chain-list bytes statement n t small list count drawn;
            no_inputs = chain-inputs bytes statement n t (length list) count drawn;
          };
      clash_exactly = clash-exactly bytes statement n t small (length list);
      clash = λ i j l drawn. (clash-inputs bytes statement n t small (length list) i j l drawn, clash-untouched bytes statement n t list i j l drawn);
      refused_exactly = refused-exactly bytes statement n t small (length list);
      refused = refused-untouched bytes statement n t list;
      planned = drawn-planned bytes statement n t small list;
    }

pub demand3 : Demand3
demand3 = record { drawn = drawn-from }
