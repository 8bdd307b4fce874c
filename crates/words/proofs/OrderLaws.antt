-- An order to seal has passed its tests, which give the bounds of its numbers.
use Rattle.std.proofs.Common.{◌≡◌, ℕ, ◌+◌, ◌≤◌, min, Bool, true, false, List, Option, Some, None, Result, Ok, Err, refl, arith, length, ltb}
use Rattle.base.specs.Choice.{pick}
use Rattle.base.specs.Limits.{max_depth, max_memory, max_challenges, IsDepth, IsMemory, IsCount}
use Rattle.base.specs.Row.{outside}
use Rattle.base.proofs.Ranges.{range-of}
use Rattle.words.specs.Parting.{word_at}
use Rattle.words.specs.Parts.{asks_help, parts_of, report_in, proof_in}
use Rattle.words.specs.Values.{value_of}
use Rattle.words.specs.declared.Kind.{Kind}
use Rattle.words.specs.declared.Kind.TheVariants as kind
use Rattle.words.specs.declared.Parts.{Parts}
use Rattle.words.specs.declared.SealOrder.{SealOrder}
use Rattle.words.specs.declared.Wanted.{Wanted}
use Rattle.words.specs.declared.Problem.{Problem}
use Rattle.words.specs.declared.Problem.TheVariants.{Depth, Challenges, Memory, Seconds}
use Rattle.words.specs.declared.Order.TheVariants.{Seal, Verify, VerifyAs, VerifyAtLeast, Help, Version}
use Rattle.words.specs.Orders.{then, word_row, paths_row, within, number_in, challenges_in, memory_in, max_seconds, seconds_by, seconds_in}
use Rattle.words.specs.Orders.{seal_order, wanted_at, verify_by, verify_order, asked_by, asked, is_version, order_of}

-- depth, challenges, memory level, seconds
pub record Sealing (order : SealOrder) : Type 0 where
  pub depth : IsDepth order.depth
  pub count : IsCount order.challenges
  pub memory : IsMemory order.depth order.memory
  pub seconds : order.seconds ≤ max_seconds

ranged : (low high : ℕ) (problem : Problem) (o : Option ℕ) (x : ℕ) → within low high problem o ≡ Ok x → (low ≤ x) × (x ≤ high)
ranged low high problem None x e = absurd cc
ranged low high problem (Some y) x e = go (outside low high y) refl e
  where
    go : (b : Bool) → outside low high y ≡ b → pick b (Err problem) (Ok y) ≡ Ok x → (low ≤ x) × (x ≤ high)
    go true eb e = absurd cc
    go false eb e = let same : y ≡ x = cc in rw (← same) (range-of low high y eb)

number_ranged : (low high : ℕ) (problem : Problem) (i : ℕ) (line : List ℕ) (x : ℕ) → number_in low high problem i line ≡ Ok x → (low ≤ x) × (x ≤ high)
unfolding number_in
number_ranged low high problem i line x e = ranged low high problem (value_of (word_at i line)) x e

count_ranged : (line : List ℕ) (p : Parts) (x : ℕ) → challenges_in line p ≡ Ok x → IsCount x
unfolding challenges_in
count_ranged line p x e = go (ltb p.count 4) e
  where
    go : (b : Bool) → pick b (Ok 150) (number_in 1 max_challenges Challenges (p.first + 3) line) ≡ Ok x → IsCount x
    go true e = let same : 150 ≡ x = cc in rw (← same) (omega arith, omega arith)
    go false e = number_ranged 1 max_challenges Challenges (p.first + 3) line x e

memory_ranged : (line : List ℕ) (p : Parts) (n x : ℕ) → memory_in line p n ≡ Ok x → IsMemory n x
unfolding memory_in
memory_ranged line p n x e = go (ltb p.count 5) e
  where
    go : (b : Bool) → pick b (Ok (min n max_memory)) (number_in 0 (min n max_memory) Memory (p.first + 4) line) ≡ Ok x → IsMemory n x
    go true e = let same : min n max_memory ≡ x = cc in omega arith
    go false e = (number_ranged 0 (min n max_memory) Memory (p.first + 4) line x e).1

seconds_ranged : (line : List ℕ) (p : Parts) (x : ℕ) → seconds_in line p ≡ Ok x → x ≤ max_seconds
unfolding seconds_in
seconds_ranged line p x e = go p.option e
  where
    go : (o : Option ℕ) → seconds_by o line ≡ Ok x → x ≤ max_seconds
    go None e = let same : 60 ≡ x = cc in omega arith
    go (Some at) e = (number_ranged 0 max_seconds Seconds (at + 1) line x e).1

abbrev Gives : Result ℕ Problem → ℕ → Type 0
Gives r x = r ≡ Ok x

-- the steps of an order to seal gave its numbers
steps :
    (a b : Result ℕ Problem) (c : ℕ → Result ℕ Problem) (d : Result ℕ Problem) (order : SealOrder)
    → then a (λ n. then b (λ t. then (c n) (λ m. then d (λ s. Ok (Seal (record { depth = n; challenges = t; memory = m; seconds = s }))))))
    ≡ Ok (Seal order)
    → Gives a order.depth × Gives b order.challenges × Gives (c order.depth) order.memory × Gives d order.seconds
steps (Err p) b c d order e = absurd cc
steps (Ok n) (Err p) c d order e = absurd cc
steps (Ok n) (Ok t) c d order e = go (c n) d refl e
  where
    go : (r d : Result ℕ Problem) → c n ≡ r
        → then r (λ m. then d (λ s. Ok (Seal (record { depth = n; challenges = t; memory = m; seconds = s })))) ≡ Ok (Seal order)
        → Gives (Ok n) order.depth × Gives (Ok t) order.challenges × Gives (c order.depth) order.memory × Gives d order.seconds
    go (Err p) d f e = absurd cc
    go (Ok m) (Err p) f e = absurd cc
    go (Ok m) (Ok s) f e =
        let same : order ≡ record { depth = n; challenges = t; memory = m; seconds = s } = cc in
        rw same (refl, refl, f, refl)

module _ (order : SealOrder) (line : List ℕ) where
  seal_bounds : (p : Parts) → seal_order line p ≡ Ok (Seal order) → Sealing order
  unfolding seal_order
  seal_bounds p e =
      let k = steps (number_in 1 max_depth Depth (p.first + 2) line) (challenges_in line p) (memory_in line p) (seconds_in line p) order e in
      record {
        depth = number_ranged 1 max_depth Depth (p.first + 2) line order.depth k.0;
        count = count_ranged line p order.challenges k.1;
        memory = memory_ranged line p order.depth order.memory k.2;
        seconds = seconds_ranged line p order.seconds k.3;
      }

  verify_not : (o : Option ℕ) (p : Parts) → verify_by o line p ≡ Ok (Seal order) → ⊥
  verify_not None p e = go (ltb p.count 3) (wanted_at (p.first + 2) line) e
    where
      go : (b : Bool) (w : Result Wanted Problem) → pick b (Ok Verify) (then w (λ w. Ok (VerifyAs w))) ≡ Ok (Seal order) → ⊥
      go true w e = cc
      go false (Ok w) e = cc
      go false (Err problem) e = cc
  verify_not (Some at) p e = go (wanted_at (at + 1) line) e
    where
      go : (w : Result Wanted Problem) → then w (λ w. Ok (VerifyAtLeast w)) ≡ Ok (Seal order) → ⊥
      go (Ok w) e = cc
      go (Err problem) e = cc

  asked_bounds : (k : Option Kind) (p : Parts) → asked_by k line p ≡ Ok (Seal order) → Sealing order
  unfolding verify_order
  asked_bounds (Some kind.Seal) p e = seal_bounds p e
  asked_bounds (Some kind.Verify) p e = absurd (verify_not p.option p e)
  asked_bounds (Some kind.Chain) p e = absurd cc
  asked_bounds (Some kind.Info) p e = absurd cc
  asked_bounds (Some kind.Help) p e = absurd cc
  asked_bounds (Some kind.Version) p e = absurd cc
  asked_bounds None p e = absurd cc

  -- what is read as an order to seal can be sealed
  pub order_bounds : order_of line ≡ Ok (Seal order) → Sealing order
  unfolding order_of asked
  order_bounds e = go (asks_help line p.kind) (is_version p.kind) (word_row p) paths e
    where
      p : Parts
      p = parts_of line

      paths : Result Unit Problem
      paths = paths_row p.kind (length (report_in line)) (length (proof_in line))

      go : (a b : Bool) (r s : Result Unit Problem)
          → pick a (Ok Help) (pick b (Ok Version) (then r (λ _. then s (λ _. asked line p)))) ≡ Ok (Seal order) → Sealing order
      go true b r s e = absurd cc
      go false true r s e = absurd cc
      go false false (Err problem) s e = absurd cc
      go false false (Ok _) (Err problem) e = absurd cc
      go false false (Ok _) (Ok _) e = asked_bounds p.kind p e
