-- `proof_file::check_file` meets its contract: the head refused, the rest refused, or the openings checked.
use mathlib.Core.Path.{sym, ◌∙◌}
use native.Mathlib.Omega.{arith}
use Rattle.std.proofs.lemmas.Grind.{common_steps}
use Rattle.proof_file.proofs.FileLaws.{Whole, head-refused, rest-refused, rest-passed}
use Rattle.proof_file.proofs.file.check_file.Goals as goal
use Rattle.proof_file.proofs.file.check_file.Goals.{In_ok-check_rest}

pub returns-in_err-head : goal.returns-in_err-head
returns-in_err-head c =
    let a = c.args in
    let e = head-refused a.bytes.now a.statement a.depth a.count _ (sym c.in_err-head.ensures) in
    grind (arith, common_steps, e)

pub returns-in_err-check_rest : goal.returns-in_err-check_rest
returns-in_err-check_rest c =
    let a = c.args in
    let e = rest-refused a.bytes.now a.statement a.depth a.count _ _ _ _ (sym c.in_ok-head.ensures) _ c.in_err-check_rest.ensures in
    grind (arith, common_steps, e)

whole : (c : In_ok-check_rest) → Whole c.args.bytes.now c.args.statement c.args.depth c.args.count c.in_ok-head.head.edition
    c.in_ok-head.head.depth c.in_ok-head.head.count c.in_ok-head.head.end
whole c =
    let a = c.args in
    rest-passed a.bytes.now a.statement a.depth a.count _ _ _ _ (sym c.in_ok-head.ensures) c.in_ok-check_rest.ensures

pub check_openings-requires : goal.check_openings-requires
check_openings-requires c =
    let w = whole (goal.at.check_openings-requires c).In_ok-check_rest in
    record { bytes_len = (w.length-is, w.statement-is) }

pub returns : goal.returns
returns c = c.check_openings.ensures ∙ (whole (goal.at.returns c).In_ok-check_rest).answer
