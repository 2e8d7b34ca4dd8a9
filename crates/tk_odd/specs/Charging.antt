-- What tasks are charged with, of what others waited.
use Rattle.std.specs.Prelude.{ℕ, ◌+◌, ◌-◌, ◌*◌, ◌/◌, ◌≡◌, nat_le, max, Bool, ◌&&◌, ◌||◌, List, sum_by, if◌then◌else◌}
use Rattle.tk_odd.specs.declared.gain.Gain.{Gain}
use Rattle.tk_odd.specs.declared.moved.Moved.{Moved}
use Rattle.tk_odd.specs.Apart.{is_apart}
use Rattle.tk_odd.specs.Sharing.{all_held, all_parts, all_waited, nobody, part_in, whole}

-- a task ran long in a step of this time: a poll of it was a long one, or its polls, of which one took a hundredth of that in the mean, ran half of the step
abbrev pub ran_long : ℕ → ℕ → Gain → Bool
ran_long long time g = nat_le long g.longest || (nat_le time (2 * g.ran) && nat_le (long * max g.polls 1) (100 * g.ran))

-- the parts of those whose waits are known to lie apart from what a task ran
abbrev pub apart_parts : ℕ → List Moved → Moved → ℕ
apart_parts now moved x = sum_by (λ y. if is_apart now x y then part_in moved y else 0) moved

-- for how long a task held up the others, but for those
abbrev pub blame_of : ℕ → List Moved → Moved → ℕ
blame_of now moved x = x.gain.ran * ((all_parts moved - part_in moved x) - apart_parts now moved x) / whole

-- what a task is charged with in a step of this time that ends now: it ran long, and others waited for it as long as that
abbrev pub charge_of : ℕ → ℕ → ℕ → List Moved → Moved → ℕ
charge_of long time now moved x =
    if ran_long long time x.gain && nat_le long (blame_of now moved x) then blame_of now moved x else 0

-- what all tasks are charged with
abbrev pub all_charged : ℕ → ℕ → ℕ → List Moved → ℕ
all_charged long time now moved = sum_by (charge_of long time now moved) moved

-- what was waited for tasks that are not charged with it: the queue that each service has
abbrev pub queued : ℕ → ℕ → ℕ → List Moved → ℕ
queued long time now moved = all_held moved - all_charged long time now moved

-- what is charged, what is waited in the queue, and what is nobody's are together what was waited
abbrev pub Splits : ℕ → ℕ → ℕ → List Moved → Type 0
Splits long time now moved =
    all_charged long time now moved + queued long time now moved + nobody moved ≡ all_waited moved
