-- What was written is read back: the head's numbers, statement, root and openings. No two heads have the same bytes.
use mathlib.Core.Path.{◌≡◌, refl, sym, ap, ◌∙◌}
use Prim.Native.Nat.{ℕ, ◌+◌, ◌-◌, ◌*◌, ◌≤◌, ◌<◌}
use native.Mathlib.Nat.{zero-add, add_assoc, mul_comm}
use native.Mathlib.Omega.{arith}
use mathlib.Core.List.{List, [], ◌++◌, append_assoc}
use lib.ListN.{length, length-append}
use lib.Seq.{take_at, drop_at, drop-append-add}
use Rattle.base.specs.Bytes.{joined}
use Rattle.base.specs.Limits.{max_edition, max_depth, max_challenges, IsEdition, IsDepth, IsCount}
use Rattle.base.specs.Lists.{EachOf}
use Rattle.base.proofs.BytesLaws.{length-joined, joined_at}
use Rattle.groups.specs.Groups.{groups, number_groups}
use Rattle.groups.specs.Reading.{value, read_at}
use Rattle.groups.proofs.ReadBack.{read-written}
use Rattle.tree.specs.Openings.{opening_size}
use Rattle.file_head.specs.Layout.{head_numbers, head, file_size, file, head_size}
use Rattle.file_head.specs.Head.{numbers, head_of, statement_at, root_at, opening_at, length_from}
use Rattle.file_head.proofs.WritingLaws.{size-numbers}
use Rattle.check_theory.specs.IsProof.{nth}
use Rattle.check_theory.specs.Heads.{IsHead, SameHead}
use Rattle.base.proofs.Ranges.{within}

-- ---- the numbers
module _ (edition n t : ℕ) (exists : IsEdition edition) (depth : IsDepth n) (count : IsCount t) (rest : List ℕ) where
  edition-back : read_at (head_numbers edition n t ++ rest) 0 number_groups ≡ value edition (length (groups number_groups edition))
  unfolding head_numbers
  edition-back =
      simp append_assoc
      (simp (append_assoc, zero-add) at
      (read-written 2 2 edition [] (groups 2 n ++ groups 2 t ++ rest) (omega arith) (omega arith) (omega arith) (omega arith)))

  depth-back :
      read_at (head_numbers edition n t ++ rest) (length (groups number_groups edition)) number_groups ≡
      value n (length (groups number_groups edition) + length (groups number_groups n))
  unfolding head_numbers
  depth-back =
      simp append_assoc
      (simp append_assoc at (read-written 2 2 n (groups 2 edition) (groups 2 t ++ rest) (omega arith) (omega arith) (omega arith) (omega arith)))

  count-back :
      read_at (head_numbers edition n t ++ rest) (length (groups number_groups edition) + length (groups number_groups n)) number_groups ≡
      value t (length (head_numbers edition n t))
  unfolding head_numbers
  count-back =
      simp (append_assoc, length-append)
      (simp (append_assoc, length-append, add_assoc) at
      (read-written 2 2 t (groups 2 edition ++ groups 2 n) rest (omega arith) (omega arith) (omega arith) (omega arith)))

  numbers-back : head_of (head_numbers edition n t ++ rest) ≡ numbers edition n t (length (head_numbers edition n t))
  unfolding head_of
  numbers-back =
      rw (
        edition-back,
        within 1 max_edition edition exists,
        depth-back,
        within 1 max_depth n depth,
        count-back,
        within 1 max_challenges t count,
      )

-- with the place after them, whatever follows
pub head-back :
    (edition : ℕ) (statement root : List ℕ) (n t : ℕ) → IsEdition edition → IsDepth n → IsCount t → (rest : List ℕ)
    → head_of (head edition statement root n t ++ rest) ≡ numbers edition n t (length (head_numbers edition n t))
unfolding head
head-back edition statement root n t exists depth count rest =
    simp append_assoc (numbers-back edition n t exists depth count (statement ++ (root ++ rest)))

-- ---- statement, root and openings
module _ (edition : ℕ) (statement root : List ℕ) (n t : ℕ) (statement_size : length statement ≡ 32) (root_size : length root ≡ 32) where
  head-length : length (head edition statement root n t) ≡ length (head_numbers edition n t) + 64
  unfolding head
  head-length = simp length-append (omega arith)

  pub length-head : edition < 128 → length (head edition statement root n t) ≡ head_size n t
  length-head small = head-length ∙ size-numbers edition n t small

  module _ (rest : List ℕ) where
    pub statement-back : statement_at (head edition statement root n t ++ rest) (length (head_numbers edition n t)) ≡ statement
    unfolding head
    statement-back =
        simp append_assoc
        (rw (drop_at (head_numbers edition n t) (statement ++ (root ++ rest)) _ refl) (take_at statement (root ++ rest) 32 statement_size))

    pub root-back : root_at (head edition statement root n t ++ rest) (length (head_numbers edition n t)) ≡ root
    unfolding head
    root-back =
        simp append_assoc
        (rw (drop-append-add (head_numbers edition n t) (statement ++ (root ++ rest)) 32, drop_at statement (root ++ rest) 32 statement_size)
        (take_at root rest 32 root_size))

  module _ (openings : List (List ℕ)) (opening_count : length openings ≡ t) (sizes : EachOf (opening_size n) openings) where
    pub length-file : length (file edition statement root n t openings) ≡ length_from n t (length (head_numbers edition n t))
    unfolding file
    length-file = rw (length-append, head-length, length-joined (opening_size n) openings sizes, opening_count, mul_comm (opening_size n) t)

    pub file-size-is : edition < 128 → length (file edition statement root n t openings) ≡ file_size n t
    unfolding file_size
    file-size-is small = length-file ∙ ap (λ (k : ℕ). k + t * opening_size n) (size-numbers edition n t small)

    pub opening-back :
        (i : ℕ) → 1 ≤ i → i ≤ t
        → opening_at (file edition statement root n t openings) n (length (head_numbers edition n t)) i ≡ nth openings i
    unfolding file
    opening-back i positive small =
        rw (
          ← head-length,
          drop-append-add (head edition statement root n t) (joined openings) ((i - 1) * opening_size n),
          mul_comm (i - 1) (opening_size n),
        )
        (joined_at (opening_size n) openings sizes (i - 1) (omega arith))

-- ---- no two heads have the same bytes
module _
    (edition : ℕ)
    (statement root : List ℕ)
    (n t edition' : ℕ)
    (statement' root' : List ℕ)
    (n' t' : ℕ)
    (h : IsHead edition statement root n t)
    (h' : IsHead edition' statement' root' n' t')
  where
    -- whatever follows them
    pub same-heads :
        (rest rest' : List ℕ) → head edition statement root n t ++ rest ≡ head edition' statement' root' n' t' ++ rest'
        → SameHead edition statement root n t edition' statement' root' n' t'
    same-heads rest rest' e =
        let same_numbers :
        numbers edition n t (length (head_numbers edition n t)) ≡ numbers edition' n' t' (length (head_numbers edition' n' t')) =
        sym (head-back edition statement root n t h.exists h.depth h.count rest)
        ∙ ap head_of e
        ∙ head-back edition' statement' root' n' t' h'.exists h'.depth h'.count rest' in
        let place : length (head_numbers edition n t) ≡ length (head_numbers edition' n' t') = cc in
        record {
          editions = cc;
          statements =
              sym (statement-back edition statement root n t h.statement_size h.root_size rest)
              ∙ rw (e, place) (statement-back edition' statement' root' n' t' h'.statement_size h'.root_size rest');
          roots =
              sym (root-back edition statement root n t h.statement_size h.root_size rest)
              ∙ rw (e, place) (root-back edition' statement' root' n' t' h'.statement_size h'.root_size rest');
          depths = cc;
          counts = cc;
        }

    pub one-head :
        head edition statement root n t ≡ head edition' statement' root' n' t'
        → SameHead edition statement root n t edition' statement' root' n' t'
    one-head e = same-heads [] [] (ap (λ (l : List ℕ). l ++ []) e)
