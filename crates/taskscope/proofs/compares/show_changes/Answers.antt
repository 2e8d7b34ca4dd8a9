use Rattle.std.specs.Prelude.{◌≡◌}
use Rattle.std.proofs.Common.{ap}
use Rattle.std.proofs.lemmas.Result.{IfErr-weaker}
use Rattle.tk_fault.specs.declared.fault.AppFault.{AppFault}
use Rattle.tk_report.specs.Views.{IsOfWriter}
use Rattle.taskscope.proofs.compares.show_changes.Goals as goal

pub returns-in-None-clause-does : goal.returns-in-None-clause-does
returns-in-None-clause-does g c =
    let contents = g.O.Write.contents in
    let old = c.args.output.now in
    let new = c.compare_recorded-worse.new.writer in
    let unwritten : (fault : AppFault) → ((IsOfWriter fault → ⊥) → new ≡ old) → (IsOfWriter fault → ⊥) → contents new ≡ contents old =
    λ fault same other. ap contents (same other) in
    rw c.in-None.is (record {
      outcome = c.compare_recorded-worse.result;
      told = c.tell_found.ensures;
      compares = c.compare_recorded-worse.ensures.compares;
      unwritten = IfErr-weaker _ _ _ unwritten c.compare_recorded-worse.ensures.unwritten;
    })

pub returns-in-Some-clause-does : goal.returns-in-Some-clause-does
returns-in-Some-clause-does g c =
    let contents = g.O.Write.contents in
    let old = c.args.output.now in
    let new = c.view_changes-worse.new.writer in
    let unwritten : (fault : AppFault) → ((IsOfWriter fault → ⊥) → new ≡ old) → (IsOfWriter fault → ⊥) → contents new ≡ contents old =
    λ fault same other. ap contents (same other) in
    rw c.in-Some.is (record {
      outcome = c.view_changes-worse.result;
      told = c.tell_page.ensures;
      pages = c.view_changes-worse.ensures.pages;
      unwritten = IfErr-weaker _ _ _ unwritten c.view_changes-worse.ensures.unwritten;
    })
