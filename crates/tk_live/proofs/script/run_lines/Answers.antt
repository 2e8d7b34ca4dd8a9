use Rattle.std.proofs.Common.{◌≡◌, ℕ, ◌+◌, List, ◌∷◌, ◌++◌, [], length, map, length-append, append_assoc, append-nil, refl, ap, sym, ◌∙◌, subst, arith, Some, None, inl, inr}
use Rattle.std.specs.List.{enumerate_from}
use Rattle.std.specs.Io.KnownBytes.{Appends}
use Rattle.std.proofs.KnownBytes.{Appends-nil, Appends-trans}
use Rattle.std.proofs.lemmas.List.{map-append, length-map}
use Rattle.tk_script.specs.Commands.{Line, line_of, lines_of, settings_of}
use Rattle.tk_live.specs.Course.{Course, start_of_all, course_of}
use Rattle.tk_script.specs.Pieces.{pieces_at, pieces_left}
use Rattle.tk_live.specs.Ran.{IsStreamOf, written_by}
use Rattle.tk_live.specs.Runs.{Represents, IsOpen}
use Rattle.tk_live.specs.Stops.{AllGo}
use Rattle.tk_live.proofs.Blocks.{none_open, open_none, open_some}
use Rattle.tk_live.proofs.Lines.{course_push, goes_more, few_lines}
use Rattle.tk_live.proofs.Streams.{written_append}
use Rattle.tk_live.proofs.script.run_lines.Goals as goal

pub overflow_add-number : goal.overflow_add-number
overflow_add-number g c =
    omega (arith, few_lines c.args.script.now (map (λ x. x.now) c.loop-line.yielded) _ c.loop-line.invariant.cut, length-map c.loop-line.yielded (λ x. x.now))

pub loop-line-init : goal.loop-line-init
loop-line-init g c = record {
  counted = refl;
  cut = sym c.new-line-items.ensures ∙ ap pieces_left (sym c.into_iter-line-iterator.ensures.into_iter_gives);
  goes = tt;
  came = ([], [], c.requires.fresh, none_open, Appends-nil _);
}

pub returns-in-Err : goal.returns-in-Err
returns-in-Err g c =
    let script : List ℕ = c.args.script.now in
    let texts : List (List ℕ) = map (λ x. x.now) c.loop-line.yielded in
    let before : List Line = map line_of texts in
    let text : List ℕ = c.in-Some.line.now in
    let more = pieces_left c.next.new.self in
    let cut : pieces_at 10 script ≡ texts ++ text ∷ more = c.loop-line.invariant.cut ∙ ap (λ p. texts ++ p) c.in-Some.ensures.steps in
    let did = c.loop-line.invariant.came in
    let h = c.in-Err.ensures (settings_of (lines_of script)) (course_of before) did.0 did.1 did.2 did.3 in (
      written_by did.1 ++ h.1,
      inl (record {
        before = before;
        line = line_of text;
        after = map line_of more;
        lines = ap (map line_of) cut ∙ map-append line_of texts (text ∷ more);
        counted = omega (arith, c.loop-line.invariant.counted, length-map c.loop-line.yielded (λ x. x.now), length-map texts line_of);
        goes = c.loop-line.invariant.goes;
        kept = did.0;
        sent = did.1;
        came = did.2.came;
        stop = c.in-Err.stop;
        stops = h.0;
        named = c.name.ensures;
        front = h.1;
        fronts = h.2;
        all = refl;
      }),
      Appends-trans _ _ _ (written_by did.1) h.1 did.4 h.3,
    )

pub loop-line-preserved : goal.loop-line-preserved
loop-line-preserved g c =
    let script : List ℕ = c.args.script.now in
    let number : ℕ = c.loop-line.number + 1 in
    let texts : List (List ℕ) = map (λ x. x.now) c.loop-line.yielded in
    let before : List Line = map line_of texts in
    let text : List ℕ = c.in-Some.line.now in
    let more = pieces_left c.next.new.self in
    let line : Line = line_of text in
    let did = c.loop-line.invariant.came in
    let h = c.in_default.ensures (settings_of (lines_of script)) (course_of before) did.0 did.1 did.2 did.3 in
    let longer : map (λ x. x.now) (c.loop-line.yielded ++ c.in-Some.line ∷ []) ≡ texts ++ text ∷ [] = map-append (λ x. x.now) c.loop-line.yielded (c.in-Some.line ∷ []) in
    let t : map line_of (map (λ x. x.now) (c.loop-line.yielded ++ c.in-Some.line ∷ [])) ≡ before ++ line ∷ [] = ap (map line_of) longer ∙ map-append line_of texts (text ∷ []) in
    let counted : number ≡ length before + 1 = omega (arith, c.loop-line.invariant.counted, length-map c.loop-line.yielded (λ x. x.now), length-map texts line_of) in
    record {
      counted = omega (arith, c.loop-line.invariant.counted, length-append c.loop-line.yielded (c.in-Some.line ∷ []));
      cut = c.loop-line.invariant.cut ∙ ap (λ p. texts ++ p) c.in-Some.ensures.steps
          ∙ sym (append_assoc texts (text ∷ []) more) ∙ ap (λ p. p ++ more) (sym longer);
      goes = subst (λ ls. AllGo start_of_all (enumerate_from 1 ls)) (sym t) (goes_more before number line counted c.loop-line.invariant.goes h.0);
      came = (
        did.0 ++ h.1,
        did.1 ++ h.2,
        subst (λ (k : Course). Represents c.run_line.new.interpreter (settings_of (lines_of script)) k (did.0 ++ h.1) (did.1 ++ h.2)) (sym (ap course_of t ∙ course_push before number line counted)) h.3,
        subst (λ (k : Course). IsOpen c.run_line.new.block k) (sym (ap course_of t ∙ course_push before number line counted)) h.4,
        subst (λ text. Appends (g.W.Write.contents c.args.writer.now) (g.W.Write.contents c.run_line.new.writer) text) (sym (written_append did.1 h.2)) (Appends-trans _ _ _ (written_by did.1) _ did.4 h.5),
      );
    }

pub last_line-requires : goal.last_line-requires
last_line-requires g c =
    let texts : List (List ℕ) = map (λ x. x.now) c.loop-line.yielded in
    let all : pieces_at 10 c.args.script.now ≡ texts = c.loop-line.invariant.cut ∙ ap (λ p. texts ++ p) c.in-None.ensures.steps.0 ∙ append-nil texts in
    c.loop-line.invariant.counted ∙ (sym (length-map c.loop-line.yielded (λ x. x.now)) ∙ ap length (sym all))

pub returns-then-is_some : goal.returns-then-is_some
returns-then-is_some g c =
    let script : List ℕ = c.args.script.now in
    let texts : List (List ℕ) = map (λ x. x.now) c.loop-line.yielded in
    let whole : lines_of script ≡ map line_of texts = ap (map line_of) (c.loop-line.invariant.cut ∙ ap (λ p. texts ++ p) c.in-None.ensures.steps.0 ∙ append-nil texts) in
    let did = c.loop-line.invariant.came in
    let there = open_some c.loop-line.block (course_of (map line_of texts)) did.3 c.if-is_some.ensures in (
      written_by did.1,
      inr (record {
        counted = c.last_line.ensures;
        goes = subst (λ ls. AllGo start_of_all (enumerate_from 1 ls)) (sym whole) c.loop-line.invariant.goes;
        block = there.0;
        is_open = subst (λ ls. (course_of ls).block ≡ Some there.0) (sym whole) there.1;
        named = c.name-then-is_some.ensures;
        kept = did.0;
        sent = did.1;
        came = subst (λ ls. IsStreamOf (settings_of (lines_of script)) (course_of ls) did.0 did.1) (sym whole) did.2.came;
        all = refl;
      }),
      did.4,
    )

pub returns : goal.returns
returns g c =
    let script : List ℕ = c.args.script.now in
    let texts : List (List ℕ) = map (λ x. x.now) c.loop-line.yielded in
    let whole : lines_of script ≡ map line_of texts = ap (map line_of) (c.loop-line.invariant.cut ∙ ap (λ p. texts ++ p) c.in-None.ensures.steps.0 ∙ append-nil texts) in
    let did = c.loop-line.invariant.came in (
      written_by did.1,
      (
        subst (λ ls. AllGo start_of_all (enumerate_from 1 ls)) (sym whole) c.loop-line.invariant.goes,
        subst (λ ls. (course_of ls).block ≡ None) (sym whole) (open_none c.loop-line.block (course_of (map line_of texts)) did.3 c.if-is_some.ensures),
        did.0,
        did.1,
        subst (λ ls. IsStreamOf (settings_of (lines_of script)) (course_of ls) did.0 did.1) (sym whole) did.2.came,
        refl,
      ),
      did.4,
    )

pub run_line-requires-clause-stands : goal.run_line-requires-clause-stands
run_line-requires-clause-stands g c = λ κs outlives.
    let did = c.loop-line.invariant.came in
    (settings_of (lines_of c.args.script.now), course_of (map line_of (map (λ x. x.now) c.loop-line.yielded)), did.0, did.1, did.2)
