use Rattle.std.proofs.Common.{◌∙◌, ℕ, ap, take}
use Rattle.std.specs.Prelude.{flat_map}
use Rattle.tk_page.specs.Charges.{blamed_at, course_of}
use Rattle.tk_page.proofs.blamed.blamed_of.Goals as goal

pub returns : goal.returns
returns c =
    let one = blamed_at c.args.now c.args.held.now (λ (i : ℕ). (course_of c.args.blame.now i).kept) in
    record {
      ranks = c.in_ok-ranks.ranks.items;
      ranked = c.in_ok-ranks.ensures;
      are = c.in_ok-list.ensures ∙ ap (flat_map one) (c.front-first.ensures ∙ ap (take 2) c.as_slice.ensures.value);
    }
