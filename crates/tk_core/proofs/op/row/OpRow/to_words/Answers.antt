use Rattle.std.proofs.Common.{arith}
use Rattle.tk_core.specs.Laws.OpReadBack.{words_are}
use Rattle.tk_core.proofs.op.row.OpRow.to_words.Goals as goal

pub returns : goal.returns
returns c =
    rw (
      words_are c.args.self.now (record { names = c.task_word.ensures.id; fit = c.len-within.ensures.fits; few = omega arith }),
      c.bits.ensures.value,
      c.flags.ensures.value,
      c.task_word.ensures.word,
      c.word_at.ensures,
      c.word_at-2.ensures,
      c.word_at-3.ensures,
      c.word_at-4.ensures,
      c.word_at-5.ensures,
      c.word_at-6.ensures,
      c.unwrap_or.ensures,
      c.unwrap_or-2.ensures,
      c.unwrap_or-3.ensures,
      c.unwrap_or-4.ensures,
    )
