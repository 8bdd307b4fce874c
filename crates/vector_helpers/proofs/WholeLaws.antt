-- A run and a file by a start and one call; leaves written, and places hashed, one after another.
use Rattle.std.proofs.Common.{◌≡◌, false, ℕ, ◌+◌, ◌<◌, ◌≤◌, List, [], map, length, get_or, take, drop, set, sym, refl, ap, ◌∙◌, ap₂, add-one, arith, drop_of_length-le, take_all, drop-cons, take-suc-set}
use Rattle.base.specs.Row.{is_done}
use Rattle.base.specs.Limits.{max_challenges}
use Rattle.base.specs.Bytes.{big_endian}
use Rattle.sha256.specs.declared.Hash.{Hash}
use Rattle.sha256.specs.Portions.{update_state, updated_all}
use Rattle.run.specs.declared.Run.{Run}
use Rattle.run.specs.Steps as runs
use Rattle.file_head.specs.Challenge.{challenged}
use Rattle.writing.specs.declared.Writing.{Writing}
use Rattle.writing.specs.Possible.{written_of}
use Rattle.machine.proofs.StepLaws.{advanced-refused}
use Rattle.writing.specs.Rows.{write_row, rewrite_row}
use Rattle.writing.specs.Steps as writings
use Rattle.writing.specs.Steps.{Written, no_writing, writing_machine}
use Rattle.writing.proofs.RowLaws.{start-refused}
use Rattle.vector_helpers.specs.Whole.{whole_run, whole_file, leaves_to}

pub run-whole : (edition : ℕ) (statement : List ℕ) (n m : ℕ) (store after : List ℕ) (run : Run) → run ≡ runs.new_run edition statement n m
    → after ≡ (runs.advanced (runs.stamped run store) 18446744073709551615).store → after ≡ whole_run edition statement n m store
unfolding whole_run
run-whole edition statement n m store after run e f = f ∙ ap (λ (r : Run). (runs.advanced (runs.stamped r store) 18446744073709551615).store) e

module _ (edition : ℕ) (statement root : List ℕ) (n m t : ℕ) (store file begun after : List ℕ) (writing : Writing) where
  pub file-whole :
      writing ≡ (writings.started edition statement root n m t store file).writing
      → begun ≡ (writings.started edition statement root n m t store file).file
      → after ≡ (writings.advanced store (written_of writing begun) 18446744073709551615).file → after ≡ whole_file edition statement root n m t store file
  unfolding whole_file
  file-whole e f g =
      g ∙ ap₂ (λ (w : Writing) (x : List ℕ). (writings.advanced store (written_of w x) 18446744073709551615).file) e f

-- where a writing is not begun nothing is written, and its call is refused
module _ (edition : ℕ) (statement root : List ℕ) (n m t : ℕ) (store file : List ℕ) where
  pub file-refused :
      is_done (write_row edition n m t (length store) (length file)) ≡ false
      → (writings.started edition statement root n m t store file).file ≡ whole_file edition statement root n m t store file
  unfolding whole_file writing_machine rewrite_row
  file-refused e =
      let begun = start-refused edition statement root n m t store file e in
      let idle = advanced-refused (writing_machine store) (written_of no_writing file) 18446744073709551615 refl in
      sym begun.1 ∙ sym (ap (λ (w : Written). w.file) idle)
      ∙ ap₂ (λ (w : Writing) (x : List ℕ). (writings.advanced store (written_of w x) 18446744073709551615).file) begun.0 begun.1

pub leaves_none : (edition n : ℕ) (statement root : List ℕ) → [] ≡ leaves_to edition n statement root 0
unfolding leaves_to
leaves_none edition n statement root = refl

pub leaves-more : (edition n : ℕ) (statement root leaves : List ℕ) (i leaf : ℕ) → i < length leaves → take i leaves ≡ leaves_to edition n statement root i
    → leaf ≡ challenged edition n statement root (i + 1) → take (i + 1) (set leaves i leaf) ≡ leaves_to edition n statement root (i + 1)
unfolding leaves_to
leaves-more edition n statement root leaves i leaf h e f =
    ap (λ (k : ℕ). take k (set leaves i leaf)) (add-one i)
    ∙ take-suc-set leaves i leaf h
    ∙ rw (e, f) (sym (ap (λ (k : ℕ). leaves_to edition n statement root k) (add-one i)))

pub leaves_all :
    (edition n : ℕ) (statement root leaves : List ℕ) (i : ℕ) → i ≡ max_challenges → length leaves ≡ max_challenges
    → take i leaves ≡ leaves_to edition n statement root i
    → leaves ≡ leaves_to edition n statement root max_challenges
leaves_all edition n statement root leaves i all size e =
    sym (take_all i leaves (omega arith)) ∙ e ∙ ap (λ (k : ℕ). leaves_to edition n statement root k) all

-- one place more
pub hashed-more : (list : List ℕ) (i : ℕ) (state next : Hash) (bytes : List ℕ) → i < length list → bytes ≡ big_endian 8 (get_or list i 0)
    → next ≡ update_state state bytes
    → updated_all state (map (big_endian 8) (drop i list)) ≡ updated_all next (map (big_endian 8) (drop (i + 1) list))
unfolding updated_all
hashed-more list i state next bytes h e f = rw (drop-cons list i 0 h, add-one i, f, e)

pub hashed-all : (list : List ℕ) (i : ℕ) (state : Hash) → length list ≤ i → updated_all state (map (big_endian 8) (drop i list)) ≡ state
unfolding updated_all
hashed-all list i state h = rw (drop_of_length-le list h)
