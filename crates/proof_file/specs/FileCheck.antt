-- Document 01's rows 'File': the answer of the check of any bytes, with the wanted statement, depth and count.
use Rattle.std.specs.Prelude.{ℕ, zero, suc, ◌+◌, ◌*◌, Bool, not, List, ltb, eqb, length}
use Rattle.base.specs.Choice.{pick, both}
use Rattle.base.specs.Lists.{same_bytes}
use Rattle.base.specs.Row.{is_done}
use Rattle.file_head.specs.Challenge.{challenge_leaf}
use Rattle.file_head.specs.Head.{HeadAnswer, numbers, not_read, head_of, length_from, statement_at, root_at, opening_at}
use Rattle.opening_check.specs.OpeningCheck.{right_row}

-- a refusal with the opening it was found in, or 0 outside openings, as one number: 'it is 256 × refusal + opening'
abbrev pub found_in : ℕ → ℕ → ℕ
found_in opening number = 256 * number + opening

-- an opening's row in a file: refused with its number, else what follows it
abbrev pub opened : ℕ → ℕ → ℕ → ℕ
opened row i next = pick (is_done row) next (found_in i row)

-- By an edition's rule, 'per opening 14, 15': `left` openings from number i on; 0 if all are right
unfoldable pub openings_from : ℕ → List ℕ → ℕ → ℕ → ℕ → ℕ → ℕ
openings_from edition bytes n at i zero = 0
openings_from edition bytes n at i (suc left) =
    let statement : List ℕ = statement_at bytes at in
    let root : List ℕ = root_at bytes at in
    let leaf : ℕ = challenge_leaf edition n statement root i in
    opened (right_row edition statement n leaf root (opening_at bytes n at i)) i (openings_from edition bytes n at (i + 1) left)

-- 9: statement, n or t not those wanted
abbrev pub wanted : List ℕ → ℕ → ℕ → List ℕ → ℕ → ℕ → Bool
wanted statement n t statement' n' t' = both (same_bytes statement statement') (both (eqb n n') (eqb t t'))

-- row 'File, rest': 10; 13; 9; per opening 14, 15 by the rule of the edition that the head says (W-206)
abbrev pub file_rest : List ℕ → List ℕ → ℕ → ℕ → HeadAnswer → ℕ
file_rest bytes statement n t (not_read r) = found_in 0 r
file_rest bytes statement n t (numbers e n' t' at) =
    pick (ltb (length bytes) (length_from n' t' at)) (found_in 0 10)
    (pick (ltb (length_from n' t' at) (length bytes)) (found_in 0 13)
    (pick (not (wanted (statement_at bytes at) n' t' statement n t)) (found_in 0 9) (openings_from e bytes n' at 1 t')))

-- the answer as one number, 0 if accepted
unfoldable pub file_check : List ℕ → List ℕ → ℕ → ℕ → ℕ
file_check bytes statement n t = file_rest bytes statement n t (head_of bytes)
