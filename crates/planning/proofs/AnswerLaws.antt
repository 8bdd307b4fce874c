-- A plan that was not refused, and its nodes by their codes.
use mathlib.Core.Path.{◌≡◌, refl, sym, ap, ◌∙◌}
use Prim.Native.Nat.{ℕ, zero, suc, ◌+◌, ◌*◌, ◌^◌, ◌≤◌, ◌<◌}
use native.Mathlib.Omega.{arith}
use mathlib.Core.List.{List, [], ◌∷◌, ◌++◌, append_assoc, map}
use lib.Dec.{leb}
use lib.Pow.{pow_pos}
use lib.ListN.{length, get_or, take, drop, length-map, length-append}
use lib.Seq.{take_at}
use borrow.Author.Tests.{ltb-false, le-leb}
use Rattle.base.specs.Choice.{pick}
use Rattle.base.specs.Bytes.{written}
use Rattle.base.specs.Limits.{max_challenges, max_chain}
use Rattle.base.proofs.Ranges.{range-of}
use Rattle.base.specs.declared.refusal.Refusal.{Refusal}
use Rattle.base.specs.Number.{number_of}
use Rattle.base.proofs.RowLaws.{not_done}
use Rattle.tree.specs.Nodes.{Node, node, root}
use Rattle.chain_theory.specs.Ways.{chain, code, chain_codes}
use Rattle.chain_theory.specs.Counts.{leaves_opened}
use Rattle.chain_theory.proofs.Once.{chain-at, same_code}
use Rattle.chain.specs.PlanRow.{plan_row, planned_count, planned_list}
use Rattle.chain.proofs.Rows.{plan-passed}
use Rattle.base.proofs.WrittenLaws.{written_none, written-append}
use Rattle.planning.specs.Output.{places, refused_text, head_text, node_text, nodes_text, answer_text, plan_text}
use Rattle.decimal.specs.Steps.{Wrote}
use Rattle.decimal.proofs.Laying.{then}
use Rattle.planning.proofs.Laying.{nodes-turn, nodes-end, nodes-short, head-short}

module _ (n : ℕ) (leaves codes : List ℕ) (done : plan_row n leaves places ≡ 0) (are : codes ≡ chain_codes n leaves) where
  pub few-leaves : length leaves ≤ max_challenges
  few-leaves = (range-of 0 max_challenges (length leaves) (plan-passed n leaves places done).1.0).1

  pub codes-count : length codes ≡ length (chain n leaves)
  unfolding chain_codes
  codes-count = rw are (length-map (chain n leaves) code)

  pub few-codes : length codes ≤ max_chain
  few-codes = omega (arith, codes-count, ltb-false places (length (chain n leaves)) (plan-passed n leaves places done).1.1.1.0)

  pub different-count : (k : ℕ) → k ≡ pick (leb (length leaves) max_challenges) (leaves_opened leaves) 0 → k ≡ leaves_opened leaves
  different-count k e = e ∙ rw (le-leb (length leaves) max_challenges few-leaves)

code_at : (vs : List Node) (i : ℕ) → i < length vs → get_or (map code vs) i 0 ≡ code (get_or vs i root)
code_at [] i h = absurd (omega arith)
code_at (v ∷ vs) zero h = refl
code_at (v ∷ vs) (suc i) h = code_at vs i (omega arith)

module _ (n : ℕ) (leaves codes : List ℕ) (are : codes ≡ chain_codes n leaves) (i : ℕ) (h : i < length (chain n leaves)) where
  the_code : get_or codes i 0 ≡ code (get_or (chain n leaves) i root)
  unfolding chain_codes
  the_code = rw are (code_at (chain n leaves) i h)

  pub code-positive : 0 < get_or codes i 0
  code-positive = let v = get_or (chain n leaves) i root in omega (arith, the_code, pow_pos v.level)

  pub the-node : (l p : ℕ) → get_or codes i 0 ≡ 2 ^ l + p → p < 2 ^ l → node l p ≡ get_or (chain n leaves) i root
  the-node l p e k =
      same_code (node l p) (get_or (chain n leaves) i root) k (chain-at n leaves root i h).0.1 (sym e ∙ the_code)

-- one node laid out, and those after it
pub nodes-wrote : (vs : List Node) (i : ℕ) (v : Node) (d e : List ℕ) (at m : ℕ) → i < length vs → v ≡ get_or vs i root → Wrote d at (node_text v) e m
    → at + length (nodes_text (drop i vs)) ≤ length d
    → (written e m (nodes_text (drop (i + 1) vs)) ≡ written d at (nodes_text (drop i vs)))
    × (m + length (nodes_text (drop (i + 1) vs)) ≡ at + length (nodes_text (drop i vs)))
nodes-wrote vs i v d e at m h f w k =
    let turn : nodes_text (drop i vs) ≡ node_text v ++ nodes_text (drop (i + 1) vs) = nodes-turn vs i h ∙ rw f in (
      rw (w.out, w.next, turn) (sym (written-append d at (node_text v) (nodes_text (drop (i + 1) vs)) (rw turn at k))),
      omega (arith, w.next, ap length turn, length-append (node_text v) (nodes_text (drop (i + 1) vs))),
    )

pub head-room : (n k c : ℕ) → length (head_text n k c) ≤ 82
unfolding head_text
head-room n k c = head-short n k c

-- the head and all nodes
pub plan-wrote : (n : ℕ) (leaves codes : List ℕ) → plan_row n leaves places ≡ 0 → codes ≡ chain_codes n leaves → (d e f : List ℕ) (k m q i : ℕ)
    → k ≡ pick (leb (length leaves) max_challenges) (leaves_opened leaves) 0 → Wrote d 0 (head_text n k (length codes)) e m → length codes ≤ i
    → written f q (nodes_text (drop i (chain n leaves))) ≡ written e m (nodes_text (chain n leaves))
    → q + length (nodes_text (drop i (chain n leaves))) ≡ m + length (nodes_text (chain n leaves)) → 82 + 42 * max_chain ≤ length d
    → Wrote d 0 (answer_text n leaves 0) f q
plan-wrote n leaves codes done are d e f k m q i different w end p t room =
    let count = codes-count n leaves codes done are in
    let none = nodes-end (chain n leaves) i (omega arith) in
    let nodes : Wrote e m (nodes_text (chain n leaves)) f q =
    record { out = sym (written_none f q) ∙ (rw none at p); next = omega (arith, t, ap length none) } in
    let text : head_text n k (length codes) ≡ head_text n (leaves_opened leaves) (length (chain n leaves)) =
    rw (count, different-count n leaves codes done are k different) in
    let head : Wrote d 0 (head_text n (leaves_opened leaves) (length (chain n leaves))) e m = rw text at w in
    then head nodes
    (omega (
      arith,
      length-append (head_text n (leaves_opened leaves) (length (chain n leaves))) (nodes_text (chain n leaves)),
      head-room n (leaves_opened leaves) (length (chain n leaves)),
      nodes-short (chain n leaves),
      few-codes n leaves codes done are,
    ))

-- what planning into a list of 6,855 places answers
pub done-row : (n : ℕ) (leaves : List ℕ) (list : ℕ) → list ≡ max_chain → 0 ≡ plan_row n leaves list → plan_row n leaves places ≡ 0
done-row n leaves list e p = rw (← e) (sym p)

pub done-count : (n : ℕ) (leaves : List ℕ) (list count : ℕ) → list ≡ max_chain → plan_row n leaves places ≡ 0 → count ≡ planned_count n leaves list
    → count ≡ length (chain n leaves)
unfolding planned_count
done-count n leaves list count e d c = c ∙ rw (e, d)

pub done-codes : (n : ℕ) (leaves list codes : List ℕ) (count : ℕ) → length list ≡ max_chain → plan_row n leaves places ≡ 0
    → count ≡ length (chain n leaves) → codes ≡ planned_list n leaves list → take count codes ≡ chain_codes n leaves
unfolding planned_list written chain_codes
done-codes n leaves list codes count e d c p =
    rw (p, e, d)
    (ap (take count) (append_assoc [] (map code (chain n leaves)) _)
    ∙ take_at (map code (chain n leaves)) _ count (length-map (chain n leaves) code ∙ sym c))

pub refused-wrote :
    (n : ℕ) (leaves d e : List ℕ) (why : Refusal) (list m : ℕ) → list ≡ max_chain → number_of why ≡ plan_row n leaves list
    → Wrote d 0 (refused_text (number_of why)) e m → Wrote d 0 (plan_text n leaves) e m
unfolding plan_text
refused-wrote n leaves d e why list m a p w =
    let row : plan_row n leaves places ≡ number_of why = rw (← a) (sym p) in
    rw (row, not_done why (number_of why) refl) w

pub done-wrote :
    (n : ℕ) (leaves d e : List ℕ) (m : ℕ) → plan_row n leaves places ≡ 0 → Wrote d 0 (answer_text n leaves 0) e m
    → Wrote d 0 (plan_text n leaves) e m
unfolding plan_text
done-wrote n leaves d e m a w = rw a w
