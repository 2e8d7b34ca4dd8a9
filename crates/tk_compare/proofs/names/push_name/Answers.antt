use Rattle.std.proofs.Common.{[], ◌∷◌, ap, ◌∙◌, Vec, Global, ℕ}
use Rattle.std.proofs.lemmas.List.{map-append}
use Rattle.tk_compare.specs.Names.{texts}
use Rattle.tk_compare.proofs.names.push_name.Goals as goal

pub returns : goal.returns
returns c = ap texts c.in_ok-push.ensures.items ∙ map-append (λ (v : Vec ℕ Global). v.items) c.args.names.now.items (c.args.name ∷ [])
