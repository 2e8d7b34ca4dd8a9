use Rattle.std.proofs.Common.{◌≡◌, ◌+◌, Bool, true, false, cond, refl, arith}
use mir.Val.{bool_byte}
use Rattle.tk_core.specs.ResourceWords.{flags_of}
use Rattle.tk_core.specs.Laws.ResourceReadBack.{IsHeld, words_are}
use Rattle.tk_core.proofs.resource.row.ResourceRow.to_words.Goals as goal

byte_is : (b : Bool) → bool_byte b ≡ cond b 1 0
byte_is true = refl
byte_is false = refl

pub returns : goal.returns
returns c =
    let held : IsHeld c.args.self.now = record { fit = c.len-within.ensures.fits; few = omega arith } in
    let flags : c.from-dropped.result + c.flags.result ≡ flags_of c.args.self.now = rw (c.from-dropped.ensures, byte_is, c.is_some.ensures, c.flags.ensures.value) refl in
    rw (words_are c.args.self.now held, flags, c.word_at.ensures, c.word_at-2.ensures, c.word_at-3.ensures, c.word_at-4.ensures, c.word_at-5.ensures, c.word_at-6.ensures, c.unwrap_or.ensures)
