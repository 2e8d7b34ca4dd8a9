use Rattle.std.proofs.Common.{◌≡◌, ◌++◌, false, drop}
use Rattle.std.specs.Prelude.{map}
use Rattle.serde_json.specs.View.{items_of}
use Rattle.serde_json.specs.Written.{items_text}
use Rattle.tk_stream.proofs.text.write.written.put_items.Given as goal

-- what was written and what is left are the whole
abbrev pub invariant-loop-item : goal.invariant-loop-item
invariant-loop-item g l =
    l.out.items ++ items_text l.later (items_of (map g.T.Written.spelling (drop l.item-index l.list)))
    ≡ l.initial.out.items ++ items_text false (items_of (map g.T.Written.spelling l.list))
