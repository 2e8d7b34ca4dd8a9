use Rattle.std.proofs.Common.{ap, sym, ◌∙◌, ◌++◌, ◌∷◌, [], slice_get, arith, map}
use Rattle.std.specs.Option.{option_map_or}
use Rattle.std.proofs.lemmas.List.{take_all}
use Rattle.tk_odd.specs.Findings.{placed, sign_placed}
use Rattle.tk_odd.proofs.ListLemmas.{made_more}
use Rattle.tk_odd.proofs.list.add_signs.Goals as goal

pub loop-i-preserved : goal.loop-i-preserved
loop-i-preserved c =
    let signs = c.args.signs.now in
    let i = c.loop-i.i in
    c.in_ok-add_sign_at.ensures
    ∙ ap (λ s. option_map_or (λ x. s ++ sign_placed x ∷ []) (slice_get signs i) s) c.loop-i.invariant
    ∙ sym (made_more sign_placed signs i (map placed c.args.list.now.items))

pub returns : goal.returns
returns c =
    c.loop-i.invariant ∙ ap (λ xs. map placed c.args.list.now.items ++ map sign_placed xs) (take_all c.loop-i.i c.args.signs.now (omega arith))
