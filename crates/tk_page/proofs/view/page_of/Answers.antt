use Rattle.std.proofs.Common.{◌++◌, Some, ◌∙◌, ap, subst}
use Rattle.tk_paper.specs.Escaping.{no_paper}
use Rattle.tk_paper.specs.declared.marks.Place.TheVariants as places
use Rattle.tk_page.specs.declared.frame.TheConstants.{HEAD, TAIL}
use Rattle.tk_page.specs.Courses.{courses_of}
use Rattle.tk_page.specs.Drawn.{DrawsSections}
use Rattle.tk_page.proofs.PageLemmas.{drawn_from, ends_between}
use Rattle.tk_page.proofs.view.page_of.Goals as goal

pub into_bytes-inner-requires : goal.into_bytes-inner-requires
into_bytes-inner-requires c =
    ends_between c.args.title.now c.scale_of-scale.result c.of-signs.result (courses_of c.args.history.now) c.args.blamed.now c.args.times.now c.args.held.now c.args.sites.now c.args.tables.now c.new-paper.result c.put_page.new.paper
    c.new-paper.ensures c.in_ok-put_page.ensures

pub returns : goal.returns
returns c =
    let signs = c.of-signs.result in
    let courses = courses_of c.args.history.now in
    let tables = c.args.tables.now in
    let title = c.args.title.now in
    let blamed = c.args.blamed.now in
    let times = c.args.times.now in
    let held = c.args.held.now in
    let sites = c.args.sites.now in
    let inner = c.into_bytes-inner.result.items in
    record {
      inner = inner;
      drawn = record {
        signs = signs;
        looked = c.of-signs.ensures;
        sections = subst (λ scale. DrawsSections title scale signs courses blamed times held sites tables no_paper (record { text = inner; place = Some places.Text })) c.scale_of-scale.ensures
            (drawn_from title c.scale_of-scale.result signs courses blamed times held sites tables c.new-paper.result c.put_page.new.paper c.new-paper.ensures c.in_ok-put_page.ensures inner
            c.into_bytes-inner.ensures.text);
      };
      woven = c.into_bytes-inner.ensures.woven;
      framed = c.in_ok-text.ensures ∙ ap (λ xs. (HEAD.now ++ xs) ++ TAIL.now) c.as_slice.ensures.value;
    }
