-- How many tasks wait.
use Rattle.std.specs.Prelude.{ℕ, ◌==◌, if◌then◌else◌, List, [], ◌++◌, codes, decimal}
use Rattle.tk_odd.specs.declared.waiting.Waiting.{Waiting}
use Rattle.tk_screen.specs.Texts.{duration_text}

-- after how many there are
abbrev pub wait_words : ℕ → List ℕ
wait_words count = if count == 1 then codes " task waits" else codes " tasks wait"

-- how many wait
abbrev pub count_text : ℕ → List ℕ
count_text count = decimal count ++ wait_words count

-- for how long the longest waits
abbrev pub time_text : ℕ → List ℕ
time_text time = codes ", the longest for " ++ duration_text time

-- the same, where one does
abbrev pub longest_text : Waiting → List ℕ
longest_text w = if w.count == 0 then [] else time_text w.longest

-- how many wait, and for how long
abbrev pub waiting_text : Waiting → List ℕ
waiting_text w = count_text w.count ++ longest_text w
