-- Pushing bytes into a state: one by one as it is defined, and in chunks as the code does.
use Prim.Native.Nat.{ℕ, zero, suc, ◌+◌, ◌-◌, ◌*◌, ◌/◌, ◌%◌, ◌^◌, ◌≤◌, ◌<◌}
use mathlib.Core.Path.{◌≡◌, refl, sym, ap, ◌∙◌}
use mathlib.Core.Bool.{Bool, true, false}
use mathlib.Core.List.{List, [], ◌∷◌, ◌++◌, append-nil}
use native.Mathlib.Nat.{add-zero, zero-add, mul-suc}
use native.Mathlib.Omega.{arith}
use borrow.Author.Tests.{eq-eqb, ne_eqb}
use lib.Arith.{digits_mod}
use lib.Dec.{eqb}
use lib.ListN.{length, take, drop, set, replicate, length-append, length-drop, take-append-drop}
use lib.Seq.{sets, sets-eq, length-take-le, drop-length, take-add, take_all, take-append-add, drop-append-add}
use Rattle.compression.specs.declared.Words.{Words}
use Rattle.sha256.specs.declared.Hash.{Hash}
use Rattle.sha256.specs.Padding.{blocks, words}
use Rattle.compression.specs.Compression.{compressed}
use Rattle.sha256.specs.Digest.{block, hash_after}
use Rattle.base.specs.Choice.{pick}
use Rattle.sha256.specs.Portions.{cleared, pushed, pushed_all}
use Rattle.sha256.proofs.Blocks.{words_take, part-from}

-- ---- one byte

abbrev stepped : Hash → ℕ → Hash
stepped s byte = record { words = s.words; tail = set s.tail (s.taken % 64) byte; taken = s.taken + 1 }

pushed-within : (s : Hash) (byte : ℕ) → s.taken % 64 < 63 → pushed s byte ≡ stepped s byte
unfolding pushed
pushed-within s byte h = rw (ne_eqb (s.taken % 64) 63 (λ e. omega arith))

pushed-full : (s : Hash) (byte : ℕ) → s.taken % 64 ≡ 63
    → pushed s byte ≡ cleared (compressed s.words (words 16 (set s.tail (s.taken % 64) byte))) (s.taken + 1)
unfolding pushed
pushed-full s byte h = rw (eq-eqb (s.taken % 64) 63 h)

pick-taken : (t : Bool) (x y : Hash) (n : ℕ) → x.taken ≡ n → y.taken ≡ n → (pick t x y).taken ≡ n
pick-taken true x y n p q = p
pick-taken false x y n p q = q

pub pushed-taken : (s : Hash) (byte : ℕ) → (pushed s byte).taken ≡ s.taken + 1
unfolding pushed
pushed-taken s byte = pick-taken (eqb (s.taken % 64) 63) _ _ _ refl refl

-- ---- many

pub pushed_all-append : (s : Hash) (a b : List ℕ) → pushed_all s (a ++ b) ≡ pushed_all (pushed_all s a) b
unfolding pushed_all
pushed_all-append s [] b = refl
pushed_all-append s (byte ∷ a) b = pushed_all-append (pushed s byte) a b

pub pushed_all-taken : (s : Hash) (bytes : List ℕ) → (pushed_all s bytes).taken ≡ s.taken + length bytes
unfolding pushed_all
pushed_all-taken s [] = sym (add-zero s.taken)
pushed_all-taken s (byte ∷ bytes) = omega (arith, pushed_all-taken (pushed s byte) bytes, pushed-taken s byte)

-- the place of the next byte in its block, and that so many more leave the block short of full
next_place : (n : ℕ) → n % 64 < 63 → (n + 1) % 64 ≡ suc (n % 64)
next_place n h =
    let e : n + 1 ≡ n / 64 * 64 + suc (n % 64) = omega arith in
    ap (λ (m : ℕ). m % 64) e ∙ digits_mod (n / 64) (omega arith)

one_more : (n more : ℕ) → n + 1 + more ≡ n + suc more
one_more n more = omega arith

short : (n more : ℕ) → n % 64 + suc more < 64 → n % 64 < 63
short n more h = omega arith

still-short : (n more : ℕ) → n % 64 + suc more < 64 → (n + 1) % 64 + more < 64
still-short n more h = rw (next_place n (short n more h)) (omega arith)

-- bytes that leave the tail short of full
pub pushed_all-within : (s : Hash) (bytes : List ℕ) → s.taken % 64 + length bytes < 64
    → pushed_all s bytes ≡ record { words = s.words; tail = sets s.tail (s.taken % 64) bytes; taken = s.taken + length bytes }
unfolding pushed_all
pushed_all-within s [] h = rw (add-zero s.taken)
pushed_all-within s (byte ∷ bytes) h =
    let room : s.taken % 64 < 63 = short s.taken (length bytes) h in
    rw (
      pushed-within s byte room,
      pushed_all-within (stepped s byte) bytes (still-short s.taken (length bytes) h),
      next_place s.taken room,
      one_more s.taken (length bytes),
    )

-- bytes that fill the tail to its end
full-step : (s : Hash) (byte : ℕ) (bytes : List ℕ) → s.taken % 64 < 63
    → pushed_all (stepped s byte) bytes ≡
    cleared (compressed s.words (words 16 (sets (set s.tail (s.taken % 64) byte) ((s.taken + 1) % 64) bytes))) (s.taken + 1 + length bytes)
    → pushed_all s (byte ∷ bytes) ≡
    cleared (compressed s.words (words 16 (sets s.tail (s.taken % 64) (byte ∷ bytes)))) (s.taken + length (byte ∷ bytes))
unfolding pushed_all
full-step s byte bytes h e =
    rw (pushed-within s byte h, e, next_place s.taken h, one_more s.taken (length bytes))

pub pushed_all-full : (s : Hash) (bytes : List ℕ) → s.taken % 64 + length bytes ≡ 64
    → pushed_all s bytes ≡ cleared (compressed s.words (words 16 (sets s.tail (s.taken % 64) bytes))) (s.taken + length bytes)
unfolding pushed_all
pushed_all-full s [] h = absurd (omega arith)
pushed_all-full s (byte ∷ []) h = pushed-full s byte (omega arith)
pushed_all-full s (byte ∷ (next ∷ bytes)) h =
    full-step s byte (next ∷ bytes) (omega arith) (pushed_all-full (stepped s byte) (next ∷ bytes) (omega arith))

-- bytes that fill the tail and go on
pub pushed_all-beyond : (s : Hash) (bytes : List ℕ) → 64 ≤ s.taken % 64 + length bytes
    → pushed_all s bytes ≡
    pushed_all
    (cleared (compressed s.words (words 16 (sets s.tail (s.taken % 64) (take (64 - s.taken % 64) bytes)))) (s.taken + (64 - s.taken % 64)))
    (drop (64 - s.taken % 64) bytes)
pushed_all-beyond s bytes h =
    let room : ℕ = 64 - s.taken % 64 in
    let n : length (take room bytes) ≡ room = length-take-le room bytes (omega arith) in
    ap (pushed_all s) (sym (take-append-drop room bytes)) ∙
    pushed_all-append s (take room bytes) (drop room bytes) ∙
    ap (λ (t : Hash). pushed_all t (drop room bytes)) (pushed_all-full s (take room bytes) (omega arith) ∙ rw n)

-- the room in the tail, and what goes on behind it
pub room-le : (waiting more : ℕ) → 64 ≤ waiting + more → 64 - waiting ≤ more
room-le waiting more h = omega arith

pub room-fills : (taken : ℕ) → taken % 64 + (64 - taken % 64) ≤ 64
room-fills taken = omega arith

pub next_start : (taken : ℕ) → (taken + (64 - taken % 64)) % 64 ≡ 0
next_start taken = omega arith

pub rest-fits : (taken : ℕ) (l : List ℕ) → 64 ≤ taken % 64 + length l → taken + length l < 2 ^ 64
    → taken + (64 - taken % 64) + length (take (length l - (64 - taken % 64)) (drop (64 - taken % 64) l)) < 2 ^ 64
rest-fits taken l h all = rw (part-from, length-drop) (omega arith)

-- ---- whole blocks, from the start of one

sets-whole : (l s : List ℕ) → length l ≡ length s → sets l 0 s ≡ s
sets-whole l s h =
    sets-eq s l 0 (omega arith) ∙ rw (zero-add (length s), ← h, drop-length l) (append-nil s)

pushed_all-block : (v : Words) (taken : ℕ) (l : List ℕ) → taken % 64 ≡ 0 → 64 ≤ length l
    → pushed_all (cleared v taken) (take 64 l) ≡ cleared (compressed v (words 16 l)) (taken + 64)
pushed_all-block v taken l m h =
    let n : length (take 64 l) ≡ 64 = length-take-le 64 l h in
    pushed_all-full (cleared v taken) (take 64 l) (omega arith) ∙
    rw (n, m, sets-whole (replicate 64 0) (take 64 l) (sym n), words_take l h)

blocks_step : (s : Hash) (v : Words) (taken : ℕ) (bytes : List ℕ) (k : ℕ) → pushed_all s (take (64 * k) bytes) ≡ cleared v taken
    → taken % 64 ≡ 0 → 64 * k + 64 ≤ length bytes
    → pushed_all s (take (64 * suc k) bytes) ≡ cleared (compressed v (block bytes k)) (taken + 64)
blocks_step s v taken bytes k e m h =
    rw (
      mul-suc 64 k,
      take-add (64 * k) 64 bytes,
      pushed_all-append s (take (64 * k) bytes) (take 64 (drop (64 * k) bytes)),
      e,
    )
    (pushed_all-block v taken (drop (64 * k) bytes) m (simp length-drop (omega arith)))

pub pushed_all-blocks : (v : Words) (taken : ℕ) (bytes : List ℕ) (k : ℕ) → taken % 64 ≡ 0 → 64 * k ≤ length bytes
    → pushed_all (cleared v taken) (take (64 * k) bytes) ≡ cleared (hash_after v bytes k) (taken + 64 * k)
unfolding pushed_all hash_after
pushed_all-blocks v taken bytes zero m h = ap (cleared v) (sym (add-zero taken))
pushed_all-blocks v taken bytes (suc k) m h =
    blocks_step (cleared v taken) (hash_after v bytes k) (taken + 64 * k) bytes k
    (pushed_all-blocks v taken bytes k m (omega arith))
    (omega arith)
    (omega arith) ∙
    ap (cleared (hash_after v bytes (suc k))) (omega arith)

-- bytes of any number, from the start of a block: whole blocks, and the rest in the tail
pub pushed_all-cleared : (v : Words) (taken : ℕ) (bytes : List ℕ) → taken % 64 ≡ 0
    → pushed_all (cleared v taken) bytes ≡
    record {
      words = hash_after v bytes (length bytes / 64);
      tail = sets (replicate 64 0) 0 (drop (64 * (length bytes / 64)) bytes);
      taken = taken + length bytes;
    }
pushed_all-cleared v taken bytes m =
    let q : ℕ = length bytes / 64 in
    let r : List ℕ = drop (64 * q) bytes in
    let n : length r ≡ length bytes - 64 * q = length-drop (64 * q) bytes in
    let at : (taken + 64 * q) % 64 ≡ 0 = omega arith in
    let all : taken + 64 * q + length r ≡ taken + length bytes = omega arith in
    ap (pushed_all (cleared v taken)) (sym (take-append-drop (64 * q) bytes)) ∙
    pushed_all-append (cleared v taken) (take (64 * q) bytes) r ∙
    ap (λ (s : Hash). pushed_all s r) (pushed_all-blocks v taken bytes q m (omega arith)) ∙
    pushed_all-within (cleared (hash_after v bytes q) (taken + 64 * q)) r (omega arith) ∙
    rw (at, all)

-- bytes that end a block, after those in the tail: the tail's bytes and they are whole blocks
module _ (s : Hash) (bytes : List ℕ) (size : length s.tail ≡ 64) (more : 64 ≤ s.taken % 64 + length bytes) where
  abbrev waiting : List ℕ
  waiting = take (s.taken % 64) s.tail

  length-waiting : length waiting ≡ s.taken % 64
  length-waiting = length-take-le (s.taken % 64) s.tail (omega arith)

  first_block : take 64 (waiting ++ bytes) ≡ waiting ++ take (64 - s.taken % 64) bytes
  first_block =
      let n : length waiting + (64 - s.taken % 64) ≡ 64 = omega (arith, length-waiting) in
      ap (λ (k : ℕ). take k (waiting ++ bytes)) (sym n) ∙ take-append-add waiting bytes (64 - s.taken % 64)

  after_first : drop 64 (waiting ++ bytes) ≡ drop (64 - s.taken % 64) bytes
  after_first =
      let n : length waiting + (64 - s.taken % 64) ≡ 64 = omega (arith, length-waiting) in
      ap (λ (k : ℕ). drop k (waiting ++ bytes)) (sym n) ∙ drop-append-add waiting bytes (64 - s.taken % 64)

  filled-tail : sets s.tail (s.taken % 64) (take (64 - s.taken % 64) bytes) ≡ take 64 (waiting ++ bytes)
  filled-tail =
      let room : ℕ = 64 - s.taken % 64 in
      let n : length (take room bytes) ≡ room = length-take-le room bytes (omega arith) in
      let end : s.taken % 64 + length (take room bytes) ≡ length s.tail = omega arith in
      sets-eq (take room bytes) s.tail (s.taken % 64) (omega arith)
      ∙ rw (end, drop-length s.tail, append-nil) (sym first_block)

  -- the same from the start of the block
  from_start : pushed_all s bytes ≡ pushed_all (cleared s.words (s.taken - s.taken % 64)) (waiting ++ bytes)
  from_start =
      let start : (s.taken - s.taken % 64) % 64 ≡ 0 = omega arith in
      let room : 64 - 0 ≡ 64 = omega arith in
      let all : s.taken - s.taken % 64 + 64 ≡ s.taken + (64 - s.taken % 64) = omega arith in
      let long : length (take 64 (waiting ++ bytes)) ≡ 64 =
      length-take-le 64 (waiting ++ bytes) (rw (length-append, length-waiting) more) in
      pushed_all-beyond s bytes more
      ∙ rw (filled-tail, ← after_first, ← all)
      (sym
      (pushed_all-beyond
      (cleared s.words (s.taken - s.taken % 64))
      (waiting ++ bytes)
      (rw (length-append, length-waiting) (omega arith))
      ∙ rw (start, room, sets-whole (replicate 64 0) (take 64 (waiting ++ bytes)) (sym long))))

  pub pushed_all-closed :
      (s.taken % 64 + length bytes) % 64 ≡ 0 → (pushed_all s bytes).words ≡ hash_after s.words (waiting ++ bytes) (blocks (waiting ++ bytes))
  pushed_all-closed whole =
      let n : length (waiting ++ bytes) ≡ s.taken % 64 + length bytes = rw (length-append, length-waiting) in
      let k : 64 * blocks (waiting ++ bytes) ≡ length (waiting ++ bytes) = omega arith in
      ap (λ (t : Hash). t.words)
      (from_start
      ∙ ap (pushed_all (cleared s.words (s.taken - s.taken % 64)))
      (sym (take_all (64 * blocks (waiting ++ bytes)) (waiting ++ bytes) (omega arith)))
      ∙ pushed_all-blocks s.words (s.taken - s.taken % 64) (waiting ++ bytes) (blocks (waiting ++ bytes)) (omega arith) (omega arith))
