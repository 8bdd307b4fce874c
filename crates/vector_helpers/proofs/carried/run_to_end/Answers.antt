use Rattle.std.proofs.Common.{◌≡◌, ◌-◌, sym, ap, ◌∙◌, ap₂}
use Rattle.machine.proofs.StepLaws.{done_refused}
use Rattle.run.specs.Steps.{Stamped, stamped, run_machine, labels_in, advanced}
use Rattle.vector_helpers.proofs.CallLaws.{labels-made, calls-idle, calls_first, calls-next, calls-last, run-idle}
use Rattle.vector_helpers.proofs.carried.run_to_end.Goals as goal

pub loop-call-init : goal.loop-call-init
loop-call-init c = calls_first advanced labels_in c.args.budget (stamped c.args.run.now c.args.store.now) c.args.calls

pub returns-then-work-eq0 : goal.returns-then-work-eq0
unfolding run_machine
returns-then-work-eq0 c =
    let l = c.loop-call in
    let budget = c.args.budget in
    let call = c.advance.ensures in
    let s = stamped l.run l.store in
    let made = labels-made c.advance.result _ _ _ (λ w q. q.0) call.outcome_value call.work_value (λ e. done_refused run_machine s budget e) in
    let none : labels_in s budget ≡ 0 = sym made ∙ sym (ap (λ w. w.labels) c.unwrap_or-work.ensures) ∙ c.if-work-eq0.true in
    let idle = run-idle s budget none in
    let all = idle ∙ sym (calls-idle advanced labels_in budget s idle (c.args.calls - l._call)) ∙ l.invariant in
    record {
      run_after = call.run_after ∙ ap (λ (t : Stamped). t.run) all;
      store_after = call.store_after ∙ ap (λ (t : Stamped). t.store) all;
    }

pub loop-call-preserved : goal.loop-call-preserved
loop-call-preserved c =
    let l = c.loop-call in
    let next = ap₂ stamped c.advance.ensures.run_after c.advance.ensures.store_after in
    calls-next advanced labels_in c.args.budget (stamped l.run l.store) _ c.args.calls l._call c.loop-call-test.true next ∙ l.invariant

pub returns : goal.returns
returns c =
    let l = c.loop-call in
    let all =
    sym (calls-last advanced labels_in c.args.budget (stamped l.run l.store) c.args.calls l._call c.loop-call-test.false) ∙ l.invariant in
    record {
      run_after = ap (λ (t : Stamped). t.run) all;
      store_after = ap (λ (t : Stamped). t.store) all;
    }
