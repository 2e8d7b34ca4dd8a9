use Rattle.std.proofs.Common.{refl}
use Rattle.tk_core.specs.declared.reply.Reply.TheVariants.{Number}
use Rattle.tk_core.specs.declared.resource.call.ResourceCall.TheVariants.{Enlist}
use Rattle.tk_core.specs.ResourceMeaning.{resource_meaning}
use Rattle.tk_ledgers.proofs.CallersLemmas.{calls_keep_live}
use Rattle.tk_ledgers_tests.proofs.tests.callers.is_used.Goals as goal

pub takes_and_gives-requires : goal.takes_and_gives-requires
takes_and_gives-requires g c = (calls_keep_live resource_meaning c.args.callers.now.token c.user.new.self.token 0 Enlist (Number c.in-Ok.user) c.in-Ok.ensures.ok).0 c.in-Ok.user refl
