-- `compare::whole::check` meets its contract: one law for each return.
use mathlib.Core.Path.{sym, ◌∙◌}
use Rattle.std.proofs.lemmas.Result.{err_from_is_err_and}
use Rattle.compare.proofs.Checks.{edition-refused, leaves-refused, depth-known, all_fit, size-short, size-long, size-right}
use native.Mathlib.Omega.{arith}
use Rattle.compare.proofs.whole.check.Goals as goal

pub returns-then-beyond : goal.returns-then-beyond
returns-then-beyond c = edition-refused _ _ c.args.leaves.now _ (sym c.beyond.ensures ∙ c.if-beyond.true)

pub returns-in_err-check_leaves : goal.returns-in_err-check_leaves
returns-in_err-check_leaves c =
    let p = err_from_is_err_and c.from_residual.result c.from_residual.ensures.1 in
    rw (p.1, p.2) (leaves-refused _ _ c.args.leaves.now _ (sym c.beyond.ensures ∙ c.if-beyond.false) _ c.in_err-check_leaves.ensures)

-- the checks of the leaves refused nothing

pub overflow_add-all : goal.overflow_add-all
overflow_add-all c = omega (arith, depth-known c.args.depth c.args.leaves.now (sym c.in_ok-check_leaves.ensures))

pub overflow_mul-all : goal.overflow_mul-all
overflow_mul-all c = omega (arith, depth-known c.args.depth c.args.leaves.now (sym c.in_ok-check_leaves.ensures))

pub overflow_mul-all-2 : goal.overflow_mul-all-2
overflow_mul-all-2 c = omega (arith, all_fit c.args.depth c.args.leaves.now (sym c.in_ok-check_leaves.ensures))

pub returns-then-size-all : goal.returns-then-size-all
returns-then-size-all c =
    size-short _ _ c.args.leaves.now _ (sym c.beyond.ensures ∙ c.if-beyond.false) (sym c.in_ok-check_leaves.ensures) c.if-size-all.true

pub returns-then-all-size : goal.returns-then-all-size
returns-then-all-size c =
    size-long _ _ c.args.leaves.now _ (sym c.beyond.ensures ∙ c.if-beyond.false) (sym c.in_ok-check_leaves.ensures)
    c.if-size-all.false c.if-all-size.true

pub returns : goal.returns
returns c =
    size-right _ _ c.args.leaves.now _ (sym c.beyond.ensures ∙ c.if-beyond.false) (sym c.in_ok-check_leaves.ensures)
    c.if-size-all.false c.if-all-size.false
