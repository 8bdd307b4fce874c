-- The numbers that are read from a record: they stand there in their shortest form, and a refused reading has a number.
use mathlib.Core.Path.{◌≡◌, ap, ◌∙◌}
use mathlib.Core.Bool.{Bool}
use mathlib.Core.List.{List, ◌++◌, append_assoc}
use Prim.Native.Nat.{ℕ, ◌≤◌, ◌<◌}
use native.Mathlib.Omega.{arith}
use lib.ListN.{length, drop, get_or, length-append}
use Rattle.base.specs.Row.{no_edition}
use Rattle.groups.specs.Groups.{groups, number_groups}
use Rattle.groups.specs.Reading.{Answer, read_at, checked}
use Rattle.groups.proofs.Checked as groups
use Rattle.groups.proofs.Checked.{Passed, refused-some}
use Rattle.groups.proofs.ShortestOnly.{Shortest, only-shortest}
use Rattle.groups.proofs.Sizes.{length-groups-le}
use Rattle.groups.proofs.Steps.{read_number}
use Rattle.run_record.specs.Layout.{made_groups, numbers_space, record_numbers}
use Rattle.run_record.specs.Reading.{NumbersAnswer, numbers, not_read, any_number, numbers_of}

-- the first bytes are the four numbers, and the place is the one after them
pub record NumbersRead (bytes : List ℕ) (edition n m made at : ℕ) : Type 0 where
  pub form : bytes ≡ record_numbers edition n m made ++ drop at bytes
  pub ends : at ≡ length (record_numbers edition n m made)

not-numbers : (edition n m made at r : ℕ) → not_read r ≡ numbers edition n m made at → ⊥
not-numbers edition n m made at r e = let no : ◌≡◌ {A = ℕ} 0 1 = cc in omega arith

-- a number that was not refused
passed : (number : Answer) (bad : ℕ → Bool) (refusal : ℕ) (next : ℕ → ℕ → NumbersAnswer) (edition n m made at : ℕ)
    → checked not_read number bad refusal next ≡ numbers edition n m made at → Passed number bad next (numbers edition n m made at)
passed number bad refusal next edition n m made at e =
    groups.passed not_read number bad refusal next (numbers edition n m made at) (not-numbers edition n m made at) e

numbers_of_lem :
    (bytes : List ℕ) (edition n m made a b c d : ℕ) → Shortest bytes 0 number_groups edition a → Shortest bytes a number_groups n b
    → Shortest bytes b number_groups m c → Shortest bytes c made_groups made d → NumbersRead bytes edition n m made d
unfolding record_numbers
numbers_of_lem bytes edition n m made a b c d s₁ s₂ s₃ s₄ =
    record {
      form =
          simp append_assoc
          (s₁.form
          ∙ ap (λ (l : List ℕ). groups number_groups edition ++ l)
          (s₂.form
          ∙ ap (λ (l : List ℕ). groups number_groups n ++ l) (s₃.form ∙ ap (λ (l : List ℕ). groups number_groups m ++ l) s₄.form)));
      ends = simp length-append (omega (arith, s₁.ends, s₂.ends, s₃.ends, s₄.ends));
    }

same_read :
    (bytes : List ℕ) (edition n m made at edition' n' m' made' at' : ℕ) → edition ≡ edition' → n ≡ n' → m ≡ m' → made ≡ made' → at ≡ at'
    → NumbersRead bytes edition n m made at → NumbersRead bytes edition' n' m' made' at'
same_read bytes edition n m made at edition' n' m' made' at' o p q r s read = rw (o, p, q, r, s) at read

-- only the shortest form of the numbers is read
pub numbers-read :
    (bytes : List ℕ) (edition n m made at : ℕ) → ((j : ℕ) → get_or bytes j 0 < 256) → numbers_of bytes ≡ numbers edition n m made at
    → NumbersRead bytes edition n m made at
unfolding numbers_of
numbers-read bytes edition n m made at small e =
    let p₁ = passed (read_at bytes 0 number_groups) no_edition 12 _ edition n m made at e in
    let p₂ = passed (read_at bytes p₁.end number_groups) any_number 4 _ edition n m made at p₁.after in
    let p₃ = passed (read_at bytes p₂.end number_groups) any_number 4 _ edition n m made at p₂.after in
    let p₄ = passed (read_at bytes p₃.end made_groups) any_number 4 _ edition n m made at p₃.after in
    let last = p₄.after in
    same_read bytes p₁.x p₂.x p₃.x p₄.x p₄.end edition n m made at (cc) (cc) (cc) (cc) (cc)
    (numbers_of_lem bytes p₁.x p₂.x p₃.x p₄.x p₁.end p₂.end p₃.end p₄.end
    (only-shortest bytes 0 number_groups p₁.x p₁.end small p₁.read)
    (only-shortest bytes p₁.end number_groups p₂.x p₂.end small p₂.read)
    (only-shortest bytes p₂.end number_groups p₃.x p₃.end small p₃.read)
    (only-shortest bytes p₃.end made_groups p₄.x p₄.end small p₄.read))

-- their space holds the numbers
pub numbers-length : (e n m made : ℕ) → length (record_numbers e n m made) ≤ numbers_space
unfolding record_numbers
numbers-length e n m made =
    simp length-append
    (omega (
      arith,
      length-groups-le number_groups e,
      length-groups-le number_groups n,
      length-groups-le number_groups m,
      length-groups-le made_groups made,
    ))

pub numbers-within :
    (bytes : List ℕ) (edition n m made at : ℕ) → ((j : ℕ) → get_or bytes j 0 < 256) → numbers_of bytes ≡ numbers edition n m made at
    → at ≤ numbers_space
numbers-within bytes edition n m made at small e =
    omega (arith, (numbers-read bytes edition n m made at small e).ends, numbers-length edition n m made)

-- a reading that is refused is refused with a number
pub refusal-number : (bytes : List ℕ) (r : ℕ) → numbers_of bytes ≡ not_read r → 1 ≤ r
unfolding numbers_of
refusal-number bytes r e =
    refused-some not_read same (read_at bytes 0 number_groups) no_edition 12 _ r (read_number bytes 0 number_groups) (omega arith)
    (λ x at f. refused-some not_read same (read_at bytes at number_groups) any_number 4 _ r (read_number bytes at number_groups) (omega arith)
    (λ n at f. refused-some not_read same (read_at bytes at number_groups) any_number 4 _ r (read_number bytes at number_groups) (omega arith)
    (λ m at f. refused-some not_read same (read_at bytes at made_groups) any_number 4 _ r (read_number bytes at made_groups) (omega arith)
    (λ made at f. not-refused f) f) f) f) e
  where
    same : (k r : ℕ) → not_read k ≡ not_read r → k ≡ r
    same k r f = cc

    not-refused : {edition n m made at r : ℕ} → numbers edition n m made at ≡ not_read r → 1 ≤ r
    not-refused f = let no : ◌≡◌ {A = ℕ} 0 1 = cc in absurd (omega arith)
