-- One warning more.
use Rattle.std.proofs.Common.{◌≡◌, ℕ, ◌+◌, ◌<◌, List, [], ◌∷◌, ◌++◌, Option, Some, None, length, take, get_or, ap, sym, ◌∙◌, append-nil}
use Rattle.std.specs.Option.{option_map_or}
use Rattle.std.specs.Prelude.{flat_map}
use Rattle.std.proofs.lemmas.List.{flat_map_more}
use Rattle.tk_stream.specs.Tables.{TablesView, task_with}
use Rattle.tk_stream.specs.declared.tables.task.Task.{Task}
use Rattle.tk_client.specs.declared.any_warnings.AnyWarning.{AnyWarning}
use Rattle.tk_client.proofs.TellLemmas.{take-last}
use Rattle.tk_series.specs.Limited.{limited, with_one}
use Rattle.tk_series.proofs.LimitedLemmas.{limited-more}
use Rattle.tk_odd.specs.Places.{place_of}
use Rattle.tk_sites.specs.Site.{room}
use Rattle.tk_sites.specs.Sites.{warned_entries}
use Rattle.tk_sites.specs.Sums.{plus, warned}
use Rattle.tk_sites.specs.Warned.{one_warning, warned_task}
use Rattle.tk_sites.specs.declared.sums.Sums.{Sums}

-- series with the warning of a task, if tables have it
added : (w : AnyWarning) (o : Option Task) (xs : List (List ℕ × Sums))
    → option_map_or (λ (t : Task). with_one plus (place_of t.info) (warned (one_warning w)) (limited room plus xs)) o (limited room plus xs)
    ≡ limited room plus (xs ++ option_map_or (λ (t : Task). (place_of t.info, warned (one_warning w)) ∷ []) o [])
added w None xs = ap (limited room plus) (sym (append-nil xs))
added w (Some t) xs = sym (limited-more plus room (place_of t.info) (warned (one_warning w)) xs)

-- the series of the first warnings, and of the one after them
pub warned_more : (tables : TablesView) (before : List (List ℕ × Sums)) (ws : List AnyWarning) (i : ℕ) (w : AnyWarning) → i < length ws → w ≡ get_or ws i w
    → option_map_or (λ (t : Task). with_one plus (place_of t.info) (warned (one_warning w)) (limited room plus (before ++ flat_map (warned_entries tables) (take i ws))))
    (task_with (warned_task w) tables.tasks) (limited room plus (before ++ flat_map (warned_entries tables) (take i ws)))
    ≡ limited room plus (before ++ flat_map (warned_entries tables) (take (i + 1) ws))
warned_more tables before ws i w h at =
    let f = warned_entries tables in
    added w (task_with (warned_task w) tables.tasks) (before ++ flat_map f (take i ws))
    ∙ ap (limited room plus) (flat_map_more f before (take i ws) w)
    ∙ ap (λ xs. limited room plus (before ++ flat_map f xs)) (sym (take-last ws i w h at))
