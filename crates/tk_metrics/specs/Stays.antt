-- Whether tasks that have left stay in the sums.
use Rattle.std.specs.Prelude.{Bool, true, false}
use Rattle.tk_metrics.specs.declared.by.By.{By}
use Rattle.tk_metrics.specs.declared.by.By.TheVariants.{Name, Id, Place}

-- where each task is shown by itself, none that has left does
abbrev pub stays : By → Bool
stays Name = true
stays Id = false
stays Place = true
