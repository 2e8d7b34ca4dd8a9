use Rattle.tk_page.proofs.tasks.put_name.Goals as goal

pub returns : goal.returns
returns c =
    rw (c.parts-recorder.ensures, c.value.ensures.value, c.value-2.ensures.value, c.flag.ensures, c.as_str.ensures.text, c.as_str-2.ensures.text, c.kind_word.ensures, c.from.ensures, c.from-2.ensures)
    at c.put.ensures
