-- Document 01's row 'File, each number in turn': '10: bytes end; 11: last of several bytes 0, or the last allowed byte above 127'.
use Rattle.std.specs.Prelude.{ℕ, zero, suc, ◌+◌, ◌*◌, ◌%◌, ◌^◌, Bool, List, ltb, leb, eqb, length, get_or, Result, Ok, Err}
use Rattle.base.specs.Choice.{pick, both}
use Rattle.base.specs.Number.{number_of}
use Rattle.base.specs.Row.{either}
use Rattle.base.specs.declared.refusal.Refusal.{Refusal}
use Rattle.groups.specs.declared.Number.{Number}

-- what reading a number answers: its value and the place after it, or document 01's number of the refusal
pub data Answer : Type 0 where
  value : ℕ → ℕ → Answer
  refused : ℕ → Answer

abbrev pub answer_of : Result Number Refusal → Answer
answer_of (Ok number) = value number.value number.end
answer_of (Err r) = refused (number_of r)

-- A number's last byte, after i others, with the number's value and its end. The last of several bytes is not 0; and no number
-- is over 2^64 − 1, which only a tenth byte above 1 would make.
unfoldable pub ended : ℕ → ℕ → ℕ → ℕ → Answer
ended byte i x end = pick (either (both (eqb byte 0) (ltb 0 i)) (leb (2 ^ 64) x)) (refused 11) (value x end)

-- the number whose next byte is at a place, when i groups worth `low` are read and `left` more bytes are allowed
unfoldable pub read_from : List ℕ → ℕ → ℕ → ℕ → ℕ → Answer
read_from bytes at i low zero = refused 11
read_from bytes at i low (suc left) =
    let byte : ℕ = get_or bytes at 0 in
    let x : ℕ = low + byte % 128 * 128 ^ i in
    pick (leb (length bytes) at) (refused 10)
    (pick (ltb byte 128) (ended byte i x (at + 1)) (read_from bytes (at + 1) (i + 1) x left))

-- the number at a place, of at most `most` bytes
unfoldable pub read_at : List ℕ → ℕ → ℕ → Answer
read_at bytes at most = read_from bytes at 0 0 most

-- A number that was read, tested: refused with a number, or followed by what comes next. Numbers that stand one after the other are
-- read so, each in turn, whatever is answered in the end.
abbrev pub checked : {A : Type 0} → (ℕ → A) → Answer → (ℕ → Bool) → ℕ → (ℕ → ℕ → A) → A
checked refuse (value x at) bad number next = pick (bad x) (refuse number) (next x at)
checked refuse (refused r) bad number next = refuse r
