use Rattle.std.proofs.Common.{ℕ, List, [], ◌∷◌, ◌++◌, cond, ap, sym, ◌∙◌, take, arith}
use Rattle.std.specs.Prelude.{map}
use Rattle.std.proofs.lemmas.List.{take_all}
use Rattle.tk_ids.specs.declared.info.TaskInfo.{TaskInfo}
use Rattle.tk_stream.specs.Tables.{is_among}
use Rattle.tk_client.specs.Taking.{new_id}
use Rattle.tk_client.proofs.TimesLemmas.{among_more, infos_next}
use Rattle.tk_client.proofs.times.new_ids.Goals as goal

pub loop-info-preserved : goal.loop-info-preserved
loop-info-preserved c =
    let infos : List TaskInfo = c.args.infos.now in
    let info : TaskInfo = c.info-item.result in
    let kept = ap (λ (n : ℕ). cond (is_among c.loop-info.ids.keys n) c.loop-info.ids.keys (c.loop-info.ids.keys ++ n ∷ [])) c.value.ensures.value in
    let next = infos_next infos c.loop-info.info-index info c.loop-info-test.true c.info-item.is in
    λ id. among_more c.loop-info.ids.keys c.insert.new.self.keys (take c.loop-info.info-index infos) info (c.in_ok-insert.ensures.keys ∙ kept) c.loop-info.invariant id
    ∙ ap (λ (xs : List TaskInfo). is_among (map new_id xs) id) (sym next)

pub returns : goal.returns
returns c =
    let infos : List TaskInfo = c.args.infos.now in
    λ id. c.loop-info.invariant id ∙ ap (λ (xs : List TaskInfo). is_among (map new_id xs) id) (take_all c.loop-info.info-index infos (omega (arith, c.loop-info-test.false)))
