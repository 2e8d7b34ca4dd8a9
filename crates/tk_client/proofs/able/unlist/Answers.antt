use Rattle.std.proofs.Common.{◌≡◌, Bool, true, false, nat_eq, take, get_or, cond, refl, ap, sym, ◌∙◌}
use Rattle.std.specs.Prelude.{◌&&◌, not}
use Rattle.indexmap.specs.IndexSet.{contains}
use Rattle.std.proofs.lemmas.List.{take_all}
use Rattle.tk_stream.specs.Tables.{is_among}
use Rattle.tk_stream.proofs.SlotLemmas.{taken_more}
use Rattle.tk_client.proofs.AbleLemmas.{unlisted-next}
use Rattle.tk_client.proofs.able.unlist.Goals as goal

all : (b : Bool) → b ≡ (b && true)
all true = refl
all false = refl

pub loop-id-init : goal.loop-id-init
loop-id-init c other = all (contains nat_eq c.args.able.now other)

pub loop-id-preserved : goal.loop-id-preserved
loop-id-preserved c other =
    let ids = c.args.gone.now in
    let i = c.loop-id.id-index in
    let was = contains nat_eq c.args.able.now other in
    c.swap_remove.ensures.updates.0 other
    ∙ ap (cond (nat_eq (get_or ids i 0) other) false) (c.loop-id.invariant other)
    ∙ unlisted-next was (take i ids) (get_or ids i 0) other
    ∙ ap (λ ns. was && not (is_among ns other)) (sym (taken_more i ids 0 c.loop-id-test.true))

pub returns : goal.returns
returns c other = c.loop-id.invariant other ∙ ap (λ ids. contains nat_eq c.args.able.now other && not (is_among ids other)) (take_all c.loop-id.id-index c.args.gone.now c.loop-id-test.false)
