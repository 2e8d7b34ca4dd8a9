use Rattle.std.proofs.Common.{◌≡◌, ◌+◌, length, ap, ◌∙◌, rules}
use Rattle.std.proofs.lemmas.List.{places}
use Rattle.tk_until.specs.Held.{given_until, held_of}
use Rattle.tk_until.proofs.Holding.{later_line, no_line, passed_line}
use Rattle.tk_until.proofs.held.Held.judge_line.Goals as goal
use Rattle.tk_until.proofs.held.Held.judge_line.Goals.{then-branch, else-branch}

pub returns-in_default-clause-same : goal.returns-in_default-clause-same
returns-in_default-clause-same c = λ rest.
    let h = c.self.inside in
    let xs = c.self.inside.bytes.items in
    let long : c.len-self-inside.result ≡ length xs = search (rules, places) in
    no_line c.args.until xs c.deref.result.now h.given h.judged h.searched c.len-self-inside.result h.ended c.args.self.now c.self.invariant c.deref.ensures.value long
    c.in_default.ensures.none c.self.view_is c.requires rest

pub returns-clause-same : goal.returns-clause-same
returns-clause-same c = λ rest.
    let h = c.self.inside in
    let xs = c.self.inside.bytes.items in
    let i = c.in-Some.before in
    let e = c.in-Some.ensures in
    elim c.if-branch.branch [
      | then-branch w ↦
          ap (λ s. given_until c.args.until (held_of s.bytes.items s.given s.judged (h.searched + i + 1) s.ended) rest) w.self-inside-is
          ∙ later_line c.args.until xs c.deref.result.now c.deref-2.result.now h.given h.judged h.searched i h.ended c.in_ok-is_later.field-0 c.args.self.now c.self.invariant
          c.deref.ensures.value c.deref-2.ensures.value e.within e.before e.through c.in_ok-is_later.ensures c.self.view_is c.requires w.if-branch.true rest
      | else-branch w ↦
          ap (λ s. given_until c.args.until (held_of s.bytes.items s.given s.judged (h.searched + i + 1) s.ended) rest) w.self-inside-is
          ∙ passed_line c.args.until xs c.deref.result.now c.deref-2.result.now h.given h.judged h.searched i h.ended c.in_ok-is_later.field-0 c.args.self.now c.self.invariant
          c.deref.ensures.value c.deref-2.ensures.value e.within e.before e.through c.in_ok-is_later.ensures c.self.view_is c.requires w.if-branch.false rest
    ]
