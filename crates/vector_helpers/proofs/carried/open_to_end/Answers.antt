use Rattle.std.proofs.Common.{◌≡◌, ℕ, ◌+◌, ◌-◌, ◌%◌, ◌^◌, sym, ap, ◌∙◌, ap₂, lit<, rules}
use Rattle.machine.proofs.StepLaws.{done_refused}
use Rattle.opening.specs.Steps as opens
use Rattle.opening.specs.Steps.{Open, opening_machine}
use Rattle.opening.specs.Names.{open_of}
use Rattle.vector_helpers.proofs.CallLaws.{labels-made, calls-idle, calls_first, calls-next, calls-last, opening-idle}
use Rattle.vector_helpers.proofs.CallLaws.{labels-idle, labels_first, labels-next, labels-last, counted-first, counted-more, counted-all}
use Rattle.vector_helpers.proofs.carried.open_to_end.Goals as goal

pub loop-call-init : goal.loop-call-init
loop-call-init c =
    let a = c.args in
    let s = open_of a.opening.now a.out.now in
    let advance = opens.advanced a.store.now in
    let labels = opens.labels_in a.store.now in
    (lit< tt, calls_first advance labels a.budget s a.calls, counted-first _ _ (labels_first advance labels a.budget s a.calls))

pub returns-then-work-eq0 : goal.returns-then-work-eq0
unfolding opening_machine
returns-then-work-eq0 c =
    let l = c.loop-call in
    let a = c.args in
    let call = c.advance.ensures in
    let s = open_of l.opening l.out in
    let advance = opens.advanced a.store.now in
    let labels = opens.labels_in a.store.now in
    let made = labels-made c.advance.result _ _ _ (λ w q. q.0) call.outcome_value call.work_value
    (λ e. done_refused (opening_machine a.store.now) s a.budget e) in
    let none : opens.labels_in a.store.now s a.budget ≡ 0 = sym made ∙ sym (ap (λ w. w.labels) c.unwrap_or-work.ensures) ∙ c.if-work-eq0.true in
    let idle = opening-idle a.store.now s a.budget none in
    let left = a.calls - l._call in
    let all = idle ∙ sym (calls-idle advance labels a.budget s idle left) ∙ l.invariant.1 in
    record {
      value = counted-all l.labels _ _ l.invariant.0 (labels-idle advance labels a.budget s idle none left) l.invariant.2;
      opening_after = call.opening_after ∙ ap (λ (t : Open). t.opening) all;
      out_after = call.out_after ∙ ap (λ (t : Open). t.out) all;
    }

pub loop-call-preserved : goal.loop-call-preserved
unfolding opening_machine
loop-call-preserved c =
    let l = c.loop-call in
    let a = c.args in
    let call = c.advance.ensures in
    let s = open_of l.opening l.out in
    let advance = opens.advanced a.store.now in
    let labels = opens.labels_in a.store.now in
    let next = ap₂ open_of call.opening_after call.out_after in
    let made = labels-made c.advance.result _ _ _ (λ w q. q.0) call.outcome_value call.work_value
    (λ e. done_refused (opening_machine a.store.now) s a.budget e) in
    let work = ap (λ w. w.labels) c.unwrap_or-work.ensures ∙ made in
    let sum = ap (λ (k : ℕ). (l.labels + k) % 2 ^ 64) (sym (labels-next advance labels a.budget s _ a.calls l._call c.loop-call-test.true next)) ∙ l.invariant.2 in (
      search rules,
      calls-next advance labels a.budget s _ a.calls l._call c.loop-call-test.true next ∙ l.invariant.1,
      counted-more l.labels _ _ _ _ sum (ap (λ (k : ℕ). (l.labels + k) % 2 ^ 64) work),
    )

pub returns : goal.returns
returns c =
    let l = c.loop-call in
    let a = c.args in
    let s = open_of l.opening l.out in
    let advance = opens.advanced a.store.now in
    let labels = opens.labels_in a.store.now in
    let all = sym (calls-last advance labels a.budget s a.calls l._call c.loop-call-test.false) ∙ l.invariant.1 in
    record {
      value = counted-all l.labels _ _ l.invariant.0 (labels-last advance labels a.budget s a.calls l._call c.loop-call-test.false) l.invariant.2;
      opening_after = ap (λ (t : Open). t.opening) all;
      out_after = ap (λ (t : Open). t.out) all;
    }
