use Rattle.std.proofs.Common.{◌≡◌, ◌<◌, length, Some, None, sym, ap, ◌∙◌, refl, arith}
use Rattle.json.specs.Json.{parse_map, read_key}
use Rattle.json.proofs.Grammar.{read_key-shorter}
use Rattle.serde_json.specs.Data.{object, put, no_members}
use Rattle.serde_json.specs.Events.{members_len}
use Rattle.serde_json.specs.View.{members_view}
use Rattle.serde_json.proofs.Views.{members_len-members_view}
use Rattle.tk_json.proofs.Steps.{member_read, member_refused, members_refused, members_over}
use Rattle.tk_stream.specs.Reading.{line_of}
use Rattle.tk_stream.specs.Spelled.{lists_put, stands_for}
use Rattle.tk_stream.proofs.Keys.{lists_after, own_put, own_len, many_passed, value_shorter}
use Rattle.tk_stream.proofs.text.read_json.spelled.read_members.Goals as goal

pub members-init : goal.members-init
members-init c = record { same = (no_members, refl, c.requires.lists, ap members_view c.requires.own); fewer = omega arith }

pub returns-in_err-name-clause-refused : goal.returns-in_err-name-clause-refused
returns-in_err-name-clause-refused c = λ _.
    let now = c.members.invariant.same in
    now.1 ∙ members_refused now.0 c.args.depth c.members.reader c.in_err-name.ensures.value

pub returns-in_err-read_member-clause-refused : goal.returns-in_err-read_member-clause-refused
returns-in_err-read_member-clause-refused c = λ refused.
    let l = c.members in
    let now = l.invariant.same in
    let k = c.in-Some.name.now in
    let s = c.next_key.new.self in
    let named : read_key l.reader ≡ Some (Some k, s) = grind arith in
    now.1 ∙ member_refused now.0 c.args.depth l.reader k s named (c.read_member.ensures.refused (grind arith))

pub members-preserved : goal.members-preserved
members-preserved c =
    let l = c.members in
    let now = l.invariant.same in
    let k = c.in-Some.name.now in
    let s = c.next_key.new.self in
    let r = c.read_member.new.reader in
    let named : read_key l.reader ≡ Some (Some k, s) = grind arith in
    let d = c.in_ok-read_member.ensures.read in
    let less = read_key-shorter l.reader (Some k) s named in
    let lesser = value_shorter c.args.depth s d.0 r d.1 in
    record {
      same = (
        put k d.0 now.0,
        now.1 ∙ member_read now.0 c.args.depth l.reader k s r d.0 named d.1,
        d.2 ∙ ap (lists_put k d.0) now.2 ∙ sym (lists_after k d.0 now.0),
        d.3 ∙ ap (put k (stands_for k d.0)) now.3 ∙ sym (own_put k d.0 now.0),
      );
      fewer = omega (arith, l.invariant.fewer, less, lesser);
    }

pub members-smaller : goal.members-smaller
members-smaller c =
    let l = c.members in
    let k = c.in-Some.name.now in
    let s = c.next_key.new.self in
    let named : read_key l.reader ≡ Some (Some k, s) = grind arith in
    let d = c.in_ok-read_member.ensures.read in
    let less = read_key-shorter l.reader (Some k) s named in
    let lesser = value_shorter c.args.depth s d.0 c.read_member.new.reader d.1 in
    omega (arith, less, lesser)

pub returns-in_err-pass_members-clause-refused : goal.returns-in_err-pass_members-clause-refused
returns-in_err-pass_members-clause-refused c = λ _.
    let l = c.members in
    let now = l.invariant.same in
    let k = c.in-Some.name.now in
    let s = c.next_key.new.self in
    let named : read_key l.reader ≡ Some (Some k, s) = grind arith in
    let d = c.in_ok-read_member.ensures.read in
    now.1 ∙ member_read now.0 c.args.depth l.reader k s c.read_member.new.reader d.0 named d.1 ∙ c.in_err-pass_members.ensures.refused (put k d.0 now.0)

pub returns-then-len-gt-MOST_KEYS-clause-read : goal.returns-then-len-gt-MOST_KEYS-clause-read
returns-then-len-gt-MOST_KEYS-clause-read c =
    let l = c.members in
    let now = l.invariant.same in
    let k = c.in-Some.name.now in
    let s = c.next_key.new.self in
    let r = c.read_member.new.reader in
    let named : read_key l.reader ≡ Some (Some k, s) = grind arith in
    let d = c.in_ok-read_member.ensures.read in
    let held = put k d.0 now.0 in
    let many : members_len held ≡ length c.read_member.new.own.entries =
    sym (own_len held) ∙ ap members_len (own_put k d.0 now.0 ∙ ap (put k (stands_for k d.0)) (sym now.3) ∙ sym d.3) ∙ members_len-members_view c.read_member.new.own.entries in
    let wide : 16 < length c.read_member.new.own.entries = omega arith in
    ap (parse_map (λ ms. line_of (object ms))) (now.1 ∙ member_read now.0 c.args.depth l.reader k s r d.0 named d.1)
    ∙ many_passed held c.args.depth r c.pass_members.new.reader (rw many wide) (c.in_ok-pass_members.ensures.passed held)

pub returns-clause-read : goal.returns-clause-read
returns-clause-read c =
    let l = c.members in
    let now = l.invariant.same in
    let over : read_key l.reader ≡ Some (None, c.next_key.new.self) = grind arith in
    (now.0, now.1 ∙ members_over now.0 c.args.depth l.reader c.next_key.new.self over, now.2, now.3)
