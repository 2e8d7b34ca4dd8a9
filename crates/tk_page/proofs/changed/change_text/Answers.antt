use Rattle.std.proofs.Common.{◌≡◌, ◌++◌, Some, ◌∙◌, ap, subst, sym}
use Rattle.tk_paper.specs.Escaping.{PaperView}
use Rattle.tk_paper.specs.Parts.{after_all}
use Rattle.tk_paper.specs.Pieces.{Writes}
use Rattle.tk_paper.specs.declared.marks.Place.TheVariants as places
use Rattle.tk_page.specs.declared.frame.TheConstants.{HEAD, TAIL}
use Rattle.tk_page.specs.ChangeRanks.{AreChangeRanks}
use Rattle.tk_page.specs.Changed.{change_parts}
use Rattle.tk_page.proofs.ChangedPlaces.{change_parts_to}
use Rattle.tk_page.proofs.changed.change_text.Goals as goal

pub into_bytes-inner-requires : goal.into_bytes-inner-requires
into_bytes-inner-requires c =
    let ranks = c.as_slice.result.now in
    let parts = change_parts c.args.title.now c.args.path.now c.args.margin c.args.spans c.args.places.now ranks c.args.findings.now in
    c.in_ok-put_change_parts.ensures.place ∙ ap (λ (p : PaperView). after_all parts p.place) c.new-paper.ensures
    ∙ change_parts_to c.args.title.now c.args.path.now c.args.margin c.args.spans c.args.places.now ranks c.args.findings.now

pub returns : goal.returns
returns c =
    let ranks = c.as_slice.result.now in
    let parts = change_parts c.args.title.now c.args.path.now c.args.margin c.args.spans c.args.places.now ranks c.args.findings.now in
    let inner = c.into_bytes-inner.result.items in
    let ends : c.put_change_parts.new.paper.place ≡ Some places.Text =
    c.in_ok-put_change_parts.ensures.place ∙ ap (λ (p : PaperView). after_all parts p.place) c.new-paper.ensures
    ∙ change_parts_to c.args.title.now c.args.path.now c.args.margin c.args.spans c.args.places.now ranks c.args.findings.now in
    let same : c.put_change_parts.new.paper ≡ record { text = inner; place = Some places.Text } = λ i. record { text = sym c.into_bytes-inner.ensures.text i; place = ends i } in
    record {
      ranks = ranks;
      ranked = subst (AreChangeRanks c.args.spans c.args.places.now) (sym c.as_slice.ensures.value) c.in_ok-ranks.ensures;
      inner = inner;
      wrote = subst (λ p. Writes p (record { text = inner; place = Some places.Text }) parts) c.new-paper.ensures
          (subst (λ p. Writes c.new-paper.result p parts) same c.in_ok-put_change_parts.ensures);
      woven = c.into_bytes-inner.ensures.woven;
      framed = c.in_ok-page.ensures ∙ ap (λ xs. (HEAD.now ++ xs) ++ TAIL.now) c.as_slice-2.ensures.value;
    }
