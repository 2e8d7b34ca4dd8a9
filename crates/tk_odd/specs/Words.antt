-- What is said of what is odd, to people.
use Rattle.std.specs.Prelude.{ℕ, Bool, if◌then◌else◌, List, [], ◌∷◌, codes}
use Rattle.tk_odd.specs.declared.finding.OddKind.{OddKind}
use Rattle.tk_odd.specs.declared.finding.OddKind.TheVariants.{HoldsUp, StandsStill, LeftAlone, Overloaded, NeverYielded, LostWaker, PassedOver, NeverPolled, LongPoll, SelfWakes}
use Rattle.tk_odd.specs.declared.words.Shape.{Shape}
use Rattle.tk_odd.specs.declared.words.Shape.TheVariants as shapes
use Rattle.tk_odd.specs.declared.words.Sign.{Sign}
use Rattle.tk_odd.specs.declared.words.Sign.TheVariants as marks

-- every kind, in the order of the worst of each
abbrev pub kinds : List OddKind
kinds = HoldsUp ∷ StandsStill ∷ LeftAlone ∷ Overloaded ∷ LongPoll ∷ NeverYielded ∷ LostWaker ∷ PassedOver ∷ NeverPolled ∷ SelfWakes ∷ []

-- whether a finding holds now
abbrev pub when_word : Bool → List ℕ
when_word is_now = if is_now then codes "now" else codes "earlier"

-- the name of a kind
abbrev pub name_of : OddKind → List ℕ
name_of HoldsUp = codes "holds-up"
name_of StandsStill = codes "stands-still"
name_of LeftAlone = codes "nobody-ran"
name_of Overloaded = codes "overloaded"
name_of NeverYielded = codes "never-yielded"
name_of LostWaker = codes "lost-waker"
name_of PassedOver = codes "passed-over"
name_of NeverPolled = codes "never-polled"
name_of LongPoll = codes "long-poll"
name_of SelfWakes = codes "self-wakes"

-- what a kind is a sign of
abbrev pub sign_of : OddKind → Sign
sign_of HoldsUp = marks.Runs
sign_of StandsStill = marks.Runs
sign_of LeftAlone = marks.Waits
sign_of Overloaded = marks.Waits
sign_of NeverYielded = marks.NeverReturns
sign_of LostWaker = marks.IsLost
sign_of PassedOver = marks.Waits
sign_of NeverPolled = marks.Waits
sign_of LongPoll = marks.Runs
sign_of SelfWakes = marks.Loops

-- what is said of a task in a word or two
abbrev pub badge_of : OddKind → List ℕ
badge_of HoldsUp = codes "held up others"
badge_of StandsStill = codes "all stood still"
badge_of LeftAlone = codes "nobody ran"
badge_of Overloaded = codes "overloaded"
badge_of NeverYielded = codes "never yielded"
badge_of LostWaker = codes "nobody can wake it"
badge_of PassedOver = codes "passed over"
badge_of NeverPolled = codes "never polled"
badge_of LongPoll = codes "long poll"
badge_of SelfWakes = codes "wakes itself"

-- what is said of who it is about, where it holds now
abbrev pub now_of : OddKind → List ℕ
now_of HoldsUp = codes "holds up the others"
now_of StandsStill = codes "runs while all others stand still"
now_of LeftAlone = codes "wait, and hardly any task runs"
now_of Overloaded = codes "wait long in the queue"
now_of NeverYielded = codes "has never yielded"
now_of LostWaker = codes "can be woken by nobody"
now_of PassedOver = codes "is passed over"
now_of NeverPolled = codes "was never polled"
now_of LongPoll = codes "is in a long poll"
now_of SelfWakes = codes "wakes itself"

-- and where it held earlier
abbrev pub earlier_of : OddKind → List ℕ
earlier_of HoldsUp = codes "held up the others"
earlier_of StandsStill = codes "ran while all others stood still"
earlier_of LeftAlone = codes "waited, and hardly any task ran"
earlier_of Overloaded = codes "waited long in the queue"
earlier_of NeverYielded = codes "had not yielded"
earlier_of LostWaker = codes "could be woken by nobody"
earlier_of PassedOver = codes "was passed over"
earlier_of NeverPolled = codes "had not been polled"
earlier_of LongPoll = codes "had a long poll"
earlier_of SelfWakes = codes "woke itself"

-- the same, after their name
abbrev pub said_of : Bool → OddKind → List ℕ
said_of is_now kind = if is_now then now_of kind else earlier_of kind

-- what its figures are
abbrev pub shape_of : OddKind → Shape
shape_of HoldsUp = shapes.Held
shape_of StandsStill = shapes.Alone
shape_of LeftAlone = shapes.Stretch
shape_of Overloaded = shapes.Stretch
shape_of NeverYielded = shapes.Lasting
shape_of LostWaker = shapes.Lasting
shape_of PassedOver = shapes.Lasting
shape_of NeverPolled = shapes.Lasting
shape_of LongPoll = shapes.Longest
shape_of SelfWakes = shapes.Share

-- what stands before its figure, in a sentence for people
abbrev pub before_of : OddKind → List ℕ
before_of HoldsUp = codes "others waited for it, at least"
before_of StandsStill = codes "No other task was polled while it ran for at least"
before_of LeftAlone = codes "a task waited longer than all others ran, by at least"
before_of Overloaded = codes "they waited in the queue at least"
before_of NeverYielded = codes "Its first poll has run"
before_of LostWaker = codes "It has been idle"
before_of PassedOver = codes "It has waited"
before_of NeverPolled = codes "It has waited"
before_of LongPoll = codes "A poll of it took at least"
before_of SelfWakes = codes "of its"

-- and what stands after it
abbrev pub after_of : OddKind → List ℕ
after_of HoldsUp = codes " in all"
after_of StandsStill = codes ""
after_of LeftAlone = codes ""
after_of Overloaded = codes " for each poll, and no task is to blame"
after_of NeverYielded = codes ", and has not come back"
after_of LostWaker = codes ", and no waker of it is left"
after_of PassedOver = codes ", while tasks were polled that came later"
after_of NeverPolled = codes ", and was never polled"
after_of LongPoll = codes ""
after_of SelfWakes = codes " wakes were its own"

-- what to do
abbrev pub advice_of : OddKind → List ℕ
advice_of HoldsUp = codes "split its polls, or move the work to a blocking task"
advice_of StandsStill = codes "split its polls, or move the work to a blocking task: timers and sockets stood still, too"
advice_of LeftAlone = codes "look for what blocks a thread outside of tasks, or for a busy machine"
advice_of Overloaded = codes "less work, or more threads: no single task is to blame"
advice_of NeverYielded = codes "it blocks, or loops without an await: move it to a blocking task"
advice_of LostWaker = codes "keep a waker of it until the wake"
advice_of PassedOver = codes "look whether the executor has lost it, keeps it behind a blocked thread, or always takes the latest first"
advice_of NeverPolled = codes "look at what holds the threads"
advice_of LongPoll = codes "split its polls, or move the work to a blocking task"
advice_of SelfWakes = codes "let an event or a timer wake it"
