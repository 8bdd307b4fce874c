-- Document 01's rows 'File' and 'Drawing a chain', in one number: 256 × refusal + opening.
use mathlib.Core.Path.{◌≡◌, refl, ◌∙◌}
use mathlib.Core.Logic.{◌⊎◌, inl, inr, ⊎_elim}
use Prim.Native.Nat.{ℕ, zero, suc, ◌+◌, ◌*◌, ◌%◌, ◌^◌, ◌≤◌, ◌<◌}
use native.Mathlib.Omega.{arith}
use mathlib.Core.Bool.{Bool, true, false, not}
use mathlib.Core.List.{List, [], ◌∷◌, ◌++◌}
use lib.Dec.{ltb, eqb}
use lib.ListN.{length}
use borrow.Author.Tests.{lt-ltb, le-ltb, lt-leb, eqb-true, eq-eqb, ne_eqb}
use Rattle.base.specs.Choice.{pick, both}
use Rattle.base.specs.Lists.{same_bytes}
use Rattle.base.proofs.ChoiceLaws.{both_first, both-second, both_false, true-false}
use Rattle.base.proofs.ListsLaws.{tells-bytes, test-same}
use Rattle.base.specs.Row.{outside, no_edition}
use Rattle.groups.specs.Reading.{Answer, value, refused, ended, read_from, read_at, checked}
use Rattle.groups.proofs.Steps.{read_none, read-end, read-last, read_more}
use Rattle.base.proofs.ChoiceLaws.{lt-or-le}
use Rattle.opening_check.specs.OpeningCheck.{right_row}
use Rattle.file_head.specs.Head.{HeadAnswer, numbers, not_read, head_of, length_from, statement_at}
use Rattle.file_head.specs.HeadSteps.{count_from, depth_from}
use Rattle.proof_file.specs.FileCheck as files
use Rattle.proof_file.specs.FileCheck.{opened, openings_from, wanted, file_check}
use Rattle.demands.specs.Rows.{Row, IsFirst, Outside, NoEdition, byte_at, value_at, behind, found_in, file_openings, file_rest, a_file}
use Rattle.demands.specs.Demand1.{head_number, AHead, AFile}
use Rattle.demands.proofs.Decisions.{Decides, decides_not, decides-outside, decides-lt, decides-differ, Decided}
use Rattle.demands.proofs.Checks.{decides-edition}

-- ---- a number of at most two bytes
module _ (bytes : List ℕ) (at : ℕ) where
  read-ends : length bytes ≤ at → read_at bytes at 2 ≡ refused 10
  unfolding read_at
  read-ends short = read-end bytes at 0 0 2 1 refl short

  module _ (here : at < length bytes) where
    read_one : byte_at bytes at < 128 → read_at bytes at 2 ≡ value (value_at bytes at) (behind bytes at)
    unfolding read_at value_at behind ended
    read_one last =
        let is : 0 + byte_at bytes at % 128 * 1 ≡ byte_at bytes at = omega arith in
        rw (
          read-last bytes at 0 0 2 1 (byte_at bytes at) 1 refl here refl refl last,
          is,
          lt-ltb (byte_at bytes at) 128 last,
          both_false (eqb (byte_at bytes at) 0),
          lt-leb (2 ^ 64) (byte_at bytes at) (omega arith),
        )

    module _ (more : 128 ≤ byte_at bytes at) where
      abbrev low : ℕ
      low = 0 + byte_at bytes at % 128 * 1

      read-second : read_at bytes at 2 ≡ read_from bytes (at + 1) 1 low 1
      unfolding read_at
      read-second = read_more bytes at 0 0 2 1 (byte_at bytes at) 1 refl here refl refl more

      read-ends-second : length bytes ≤ at + 1 → read_at bytes at 2 ≡ refused 10
      read-ends-second short = read-second ∙ read-end bytes (at + 1) 1 low 1 0 refl short

      module _ (there : at + 1 < length bytes) where
        read-third : 128 ≤ byte_at bytes (at + 1) → read_at bytes at 2 ≡ refused 11
        read-third high =
            read-second
            ∙ read_more bytes (at + 1) 1 low 1 0 (byte_at bytes (at + 1)) 128 refl there refl refl high
            ∙ read_none bytes (at + 1 + 1) 2 _ 0 refl

        read-zero : byte_at bytes (at + 1) ≡ 0 → read_at bytes at 2 ≡ refused 11
        unfolding ended
        read-zero none =
            read-second
            ∙ read-last bytes (at + 1) 1 low 1 0 (byte_at bytes (at + 1)) 128 refl there refl refl (omega arith)
            ∙ rw (eq-eqb (byte_at bytes (at + 1)) 0 none)

        read-two :
            (byte_at bytes (at + 1) ≡ 0 → ⊥) → byte_at bytes (at + 1) < 128
            → read_at bytes at 2 ≡ value (value_at bytes at) (behind bytes at)
        unfolding value_at behind ended
        read-two some last =
            let is : low + byte_at bytes (at + 1) % 128 * 128 ≡ byte_at bytes at % 128 + 128 * byte_at bytes (at + 1) = omega arith in
            let end : at + 1 + 1 ≡ at + 2 = omega arith in
            let fits : byte_at bytes at % 128 + 128 * byte_at bytes (at + 1) < 2 ^ 64 = omega arith in
            read-second
            ∙ read-last bytes (at + 1) 1 low 1 0 (byte_at bytes (at + 1)) 128 refl there refl refl last
            ∙ rw (
              ne_eqb (byte_at bytes (at + 1)) 0 some,
              is,
              end,
              lt-leb (2 ^ 64) (byte_at bytes at % 128 + 128 * byte_at bytes (at + 1)) fits,
              le-ltb (byte_at bytes at) 128 more,
            )

-- the number's conditions, each number marked as in an answer, then those that follow
abbrev pub number_row : (ℕ → ℕ) → List ℕ → ℕ → Row → Row
number_row mark bytes at row =
    ((length bytes ≤ at) ⊎ ((128 ≤ byte_at bytes at) × (length bytes ≤ at + 1)), mark 10)
    ∷ ((128 ≤ byte_at bytes at) × ((byte_at bytes (at + 1) ≡ 0) ⊎ (128 ≤ byte_at bytes (at + 1))), mark 11)
    ∷ row

-- the number, then what is answered of its value
module _
    (mark : ℕ → ℕ) (answer : Answer → ℕ) (refusals : (number : ℕ) → answer (refused number) ≡ mark number) (bytes : List ℕ) (at : ℕ)
    (row : Row) (rest : IsFirst row (answer (value (value_at bytes at) (behind bytes at)))) where
  abbrev NumberFirst : Type 0
  NumberFirst = IsFirst (number_row mark bytes at row) (answer (read_at bytes at 2))

  refused-answer : (r : ℕ) → read_at bytes at 2 ≡ refused r → answer (read_at bytes at 2) ≡ mark r
  refused-answer r e = rw e (refusals r)

  value-answer : read_at bytes at 2 ≡ value (value_at bytes at) (behind bytes at) → IsFirst row (answer (read_at bytes at 2))
  value-answer e = rw e rest

  -- bytes end, in the first or the second
  first_ends : length bytes ≤ at → NumberFirst
  first_ends short = inl (inl short, refused-answer 10 (read-ends bytes at short))

  module _ (here : at < length bytes) where
    first-last : byte_at bytes at < 128 → NumberFirst
    first-last last =
        inr (
          ⊎_elim (λ short. omega arith) (λ short. omega (arith, short.0)),
          inr (λ long. omega (arith, long.0), value-answer (read_one bytes at here last)),
        )

    module _ (more : 128 ≤ byte_at bytes at) where
      second-ends : length bytes ≤ at + 1 → NumberFirst
      second-ends short = inl (inr (more, short), refused-answer 10 (read-ends-second bytes at here more short))

      module _ (there : at + 1 < length bytes) where
        enough : (length bytes ≤ at) ⊎ ((128 ≤ byte_at bytes at) × (length bytes ≤ at + 1)) → ⊥
        enough = ⊎_elim (λ short. omega arith) (λ short. omega (arith, short.1))

        second-high : 128 ≤ byte_at bytes (at + 1) → NumberFirst
        second-high high = inr (enough, inl ((more, inr high), refused-answer 11 (read-third bytes at here more there high)))

        second-zero : byte_at bytes (at + 1) ≡ 0 → NumberFirst
        second-zero none = inr (enough, inl ((more, inl none), refused-answer 11 (read-zero bytes at here more there none)))

        second-last : 0 < byte_at bytes (at + 1) → byte_at bytes (at + 1) < 128 → NumberFirst
        second-last some last =
            inr (
              enough,
              inr (
                λ long. ⊎_elim (λ none. omega arith) (λ high. omega arith) long.1,
                value-answer (read-two bytes at here more there (λ none. omega arith) last),
              ),
            )

        second-here : NumberFirst
        second-here =
            ⊎_elim
            (λ none. second-zero (omega arith))
            (λ some. ⊎_elim (second-last some) second-high (lt-or-le (byte_at bytes (at + 1)) 128))
            (lt-or-le (byte_at bytes (at + 1)) 1)

      first_more : NumberFirst
      first_more = ⊎_elim second-here second-ends (lt-or-le (at + 1) (length bytes))

    first-here : NumberFirst
    first-here = ⊎_elim first-last first_more (lt-or-le (byte_at bytes at) 128)

  pub number-first : NumberFirst
  number-first = ⊎_elim first-here first_ends (lt-or-le at (length bytes))

-- the number, then the condition on its value
module _
    (mark : ℕ → ℕ) (answer : HeadAnswer → ℕ) (refusals : (number : ℕ) → answer (not_read number) ≡ mark number) (bad : ℕ → Bool)
    (Bad : ℕ → Type 0) (decides : (x : ℕ) → Decides (bad x) (Bad x)) (refusal : ℕ) (next : ℕ → ℕ → HeadAnswer) where
  value-by :
      (x end : ℕ) (row : Row) (t : Bool) → Decides t (Bad x) → IsFirst row (answer (next x end))
      → IsFirst ((Bad x, mark refusal) ∷ row) (answer (pick t (not_read refusal) (next x end)))
  value-by x end row true d rest = inl (d.yes refl, refusals refusal)
  value-by x end row false d rest = inr (d.no refl, rest)

  checked-first :
      (bytes : List ℕ) (at : ℕ) (row : Row) → IsFirst row (answer (next (value_at bytes at) (behind bytes at)))
      → IsFirst (number_row mark bytes at ((Bad (value_at bytes at), mark refusal) ∷ row))
      (answer (checked not_read (read_at bytes at 2) bad refusal next))
  checked-first bytes at row rest =
      number-first mark (λ number. answer (checked not_read number bad refusal next)) refusals bytes at
      ((Bad (value_at bytes at), mark refusal) ∷ row)
      (value-by (value_at bytes at) (behind bytes at) row (bad (value_at bytes at)) (decides (value_at bytes at)) rest)

-- ---- the rest
-- conditions in front of a row, and their tests in front of a check
abbrev conditions_then : List Decided → Row → Row
conditions_then [] row = row
conditions_then (c ∷ cs) row = (c.condition, 256 * c.number + 0) ∷ conditions_then cs row

abbrev tests_then : List Decided → ℕ → ℕ
tests_then [] next = next
tests_then (c ∷ cs) next = pick c.test (256 * c.number + 0) (tests_then cs next)

check-step :
    (t : Bool) (P : Type 0) (code : ℕ) (row : Row) (next : ℕ) → Decides t P → IsFirst row next
    → IsFirst ((P, code) ∷ row) (pick t code next)
check-step true P code row next d rest = inl (d.yes refl, refl)
check-step false P code row next d rest = inr (d.no refl, rest)

checks-first : (cs : List Decided) (row : Row) (next : ℕ) → IsFirst row next → IsFirst (conditions_then cs row) (tests_then cs next)
checks-first [] row next rest = rest
checks-first (c ∷ cs) row next rest =
    check-step c.test c.condition (256 * c.number + 0) (conditions_then cs row) (tests_then cs next) c.decides (checks-first cs row next rest)

opened-step :
    (a b : Bool) (P Q : Type 0) (i : ℕ) (row : Row) (next : ℕ) → Decides a P → Decides b Q → IsFirst row next
    → IsFirst ((P, 256 * 14 + i) ∷ (Q, 256 * 15 + i) ∷ row) (opened (pick a 14 (pick b 15 0)) i next)
opened-step true b P Q i row next p q rest = inl (p.yes refl, refl)
opened-step false true P Q i row next p q rest = inr (p.no refl, inl (q.yes refl, refl))
opened-step false false P Q i row next p q rest = inr (p.no refl, inr (q.no refl, rest))

-- by the edition that the head says
openings-first :
    (bytes : List ℕ) (n at i left : ℕ) → IsFirst (file_openings bytes n at i left) (openings_from (value_at bytes 0) bytes n at i left)
unfolding file_openings openings_from right_row
openings-first bytes n at i zero = refl
openings-first bytes n at i (suc left) =
    opened-step _ _ _ _ i (file_openings bytes n at (i + 1) left) (openings_from (value_at bytes 0) bytes n at (i + 1) left)
    (decides-differ _ _) (decides-differ _ _) (openings-first bytes n at (i + 1) left)

abbrev AsWanted : List ℕ → ℕ → ℕ → List ℕ → ℕ → ℕ → Type 0
AsWanted s n' t' statement n t = (s ≡ statement) × (n' ≡ n) × (t' ≡ t)

decides-wanted : (s : List ℕ) (n' t' : ℕ) (statement : List ℕ) (n t : ℕ) → Decides (wanted s n' t' statement n t) (AsWanted s n' t' statement n t)
decides-wanted s n' t' statement n t =
    record {
      yes =
          λ w.
          let k : both (eqb n' n) (eqb t' t) ≡ true = both-second (same_bytes s statement) (both (eqb n' n) (eqb t' t)) w in (
            tells-bytes.equal s statement (both_first (same_bytes s statement) (both (eqb n' n) (eqb t' t)) w),
            eqb-true n' n (both_first (eqb n' n) (eqb t' t) k),
            eqb-true t' t (both-second (eqb n' n) (eqb t' t) k),
          );
      no =
          λ e same.
          true-false (wanted s n' t' statement n t)
          (rw (test-same tells-bytes s statement same.0, eq-eqb n' n same.1, eq-eqb t' t same.2))
          e;
    }

-- ---- the head's numbers, and what follows them, for any answer
module _
    (mark : ℕ → ℕ) (answer : HeadAnswer → ℕ) (refusals : (number : ℕ) → answer (not_read number) ≡ mark number) (bytes : List ℕ)
    (later : ℕ → ℕ → ℕ → Row)
    (rest : (n t at : ℕ) → IsFirst (later n t at) (answer (numbers (value_at bytes 0) n t at))) where
  abbrev edition : ℕ
  edition = value_at bytes 0

  abbrev count_row : ℕ → ℕ → Row
  count_row n at =
      number_row mark bytes at ((Outside 1 200 (value_at bytes at), mark 8) ∷ later n (value_at bytes at) (behind bytes at))

  abbrev depth_row : ℕ → Row
  depth_row at = number_row mark bytes at ((Outside 1 40 (value_at bytes at), mark 1) ∷ count_row (value_at bytes at) (behind bytes at))

  count-first : (n at : ℕ) → IsFirst (count_row n at) (answer (count_from bytes edition n at))
  unfolding count_from
  count-first n at =
      checked-first mark answer refusals (outside 1 200) (Outside 1 200) (decides-outside 1 200) 8 (λ t at. numbers edition n t at)
      bytes at (later n (value_at bytes at) (behind bytes at)) (rest n (value_at bytes at) (behind bytes at))

  depth-first : (at : ℕ) → IsFirst (depth_row at) (answer (depth_from bytes edition at))
  unfolding depth_from
  depth-first at =
      checked-first mark answer refusals (outside 1 40) (Outside 1 40) (decides-outside 1 40) 1 (count_from bytes edition) bytes at
      (count_row (value_at bytes at) (behind bytes at)) (count-first (value_at bytes at) (behind bytes at))

  head_first :
      IsFirst (number_row mark bytes 0 ((NoEdition edition, mark 12) ∷ depth_row (behind bytes 0))) (answer (head_of bytes))
  unfolding head_of depth_from count_from
  head_first =
      checked-first mark answer refusals no_edition NoEdition decides-edition 12 (depth_from bytes) bytes 0
      (depth_row (behind bytes 0)) (depth-first (behind bytes 0))

pub a-head : (bytes : List ℕ) → AHead bytes
a-head bytes = head_first (λ k. k) head_number (λ r. refl) bytes (λ n t at. []) (λ n t at. refl)

-- ---- the whole file
module _ (bytes statement : List ℕ) (n t : ℕ) where
  rest-first :
      (n' t' at : ℕ)
      → IsFirst (found_in 0 (file_rest bytes statement n t n' t' at) ++ file_openings bytes n' at 1 t')
      (files.file_rest bytes statement n t (numbers (value_at bytes 0) n' t' at))
  rest-first n' t' at =
      let size : ℕ = length_from n' t' at in
      checks-first
      (record { test = ltb (length bytes) size; condition = length bytes < size; decides = decides-lt (length bytes) size; number = 10 }
      ∷ record { test = ltb size (length bytes); condition = size < length bytes; decides = decides-lt size (length bytes); number = 13 }
      ∷ record {
        test = not (wanted (statement_at bytes at) n' t' statement n t);
        condition = AsWanted (statement_at bytes at) n' t' statement n t → ⊥;
        decides = decides_not (decides-wanted (statement_at bytes at) n' t' statement n t);
        number = 9;
      }
      ∷ []
      )
      (file_openings bytes n' at 1 t')
      (openings_from (value_at bytes 0) bytes n' at 1 t')
      (openings-first bytes n' at 1 t')

  pub a-file : AFile bytes statement n t
  unfolding a_file file_check
  a-file =
      head_first (λ k. 256 * k + 0) (λ h. files.file_rest bytes statement n t h) (λ r. refl) bytes
      (λ n' t' at. found_in 0 (file_rest bytes statement n t n' t' at) ++ file_openings bytes n' at 1 t') rest-first
