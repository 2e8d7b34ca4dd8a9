use Rattle.std.proofs.Common.{◌≡◌, ◌++◌, List, ℕ, take, ap, ap₂, sym, subst, ◌∙◌}
use Rattle.std.specs.Prelude.{filter}
use Rattle.tk_stream.specs.Applied.{times_told}
use Rattle.tk_stream.specs.Lines.{LineView, is_new, gone_of, times_of}
use Rattle.tk_stream.specs.Tables.{staying}
use Rattle.tk_stream.specs.Times.{TaskTimes, times_id}
use Rattle.tk_client.specs.Applying.{AreKeyed}
use Rattle.tk_client.proofs.TimesLemmas.{take-begins, grown_left, told_there, all_told}
use Rattle.tk_client.proofs.times.go_on.Goals as goal

pub returns-in-Err-clause-kept_times : goal.returns-in-Err-clause-kept_times
returns-in-Err-clause-kept_times c =
    c.cut.ensures ∙ ap (λ n. take n c.add.new.times) c.len-count.ensures.count ∙ take-begins c.args.times.now c.add.new.times c.add.ensures.grown

pub tell-requires-clause-there : goal.tell-requires-clause-there
tell-requires-clause-there c =
    let l : LineView = c.args.line.now in
    let times : List TaskTimes = c.args.times.now in
    let stay : List TaskTimes = staying times_id (gone_of l).tasks times in
    let gone : c.gone_tasks.result.now ≡ (gone_of l).tasks = c.gone_tasks.ensures ∙ ap (λ (m : LineView). (gone_of m).tasks) c.in-Ok.ensures.spent in
    let told : c.task_times-in-Ok.result.now ≡ times_of l = c.task_times-in-Ok.ensures ∙ ap (λ (m : LineView). times_of m) c.in-Ok.ensures.spent in
    let added : c.add.new.times ≡ times ++ filter (is_new times_id times) (times_of l) =
    c.in_default.ensures.added ∙ ap (λ ts. times ++ filter (is_new times_id times) ts) c.task_times.ensures in
    let left : c.leave.new.times ≡ stay ++ filter (is_new times_id stay) (times_of l) =
    c.leave.ensures ∙ ap₂ (λ (gs : List ℕ) (ts : List TaskTimes). staying times_id gs ts) gone added ∙ grown_left times l c.requires in
    subst (λ (ts : List TaskTimes). AreKeyed times_id ts c.task_times-in-Ok.result.now) (sym left)
    (subst (λ (ts : List TaskTimes). AreKeyed times_id (stay ++ filter (is_new times_id stay) (times_of l)) ts) (sym told) (told_there stay l))

pub returns-in-Ok-clause-times : goal.returns-in-Ok-clause-times
returns-in-Ok-clause-times c =
    let l : LineView = c.args.line.now in
    let times : List TaskTimes = c.args.times.now in
    let stay : List TaskTimes = staying times_id (gone_of l).tasks times in
    let gone : c.gone_tasks.result.now ≡ (gone_of l).tasks = c.gone_tasks.ensures ∙ ap (λ (m : LineView). (gone_of m).tasks) c.in-Ok.ensures.spent in
    let told : c.task_times-in-Ok.result.now ≡ times_of l = c.task_times-in-Ok.ensures ∙ ap (λ (m : LineView). times_of m) c.in-Ok.ensures.spent in
    let added : c.add.new.times ≡ times ++ filter (is_new times_id times) (times_of l) =
    c.in_default.ensures.added ∙ ap (λ ts. times ++ filter (is_new times_id times) ts) c.task_times.ensures in
    let left : c.leave.new.times ≡ stay ++ filter (is_new times_id stay) (times_of l) =
    c.leave.ensures ∙ ap₂ (λ (gs : List ℕ) (ts : List TaskTimes). staying times_id gs ts) gone added ∙ grown_left times l c.requires in
    c.tell.ensures ∙ ap₂ times_told left told ∙ all_told times l c.requires
