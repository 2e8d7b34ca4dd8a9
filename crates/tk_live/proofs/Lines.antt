-- Lines, one after the other.
use Rattle.std.proofs.Common.{◌≡◌, ℕ, ◌+◌, ◌-◌, ◌^◌, ◌≤◌, ◌<◌, List, [], ◌∷◌, ◌++◌, length, length-append, Bool, Option, Some, Result, Ok, Err, inl, inr, refl, sym, ap, ◌∙◌, subst, arith}
use Rattle.std.specs.Prelude.{◌==◌, ◌||◌, if◌then◌else◌, min, not, fold}
use Rattle.std.specs.List.{enumerate_from}
use Rattle.std.proofs.KnownBytes.{Appends-nil}
use Rattle.std.proofs.lemmas.Bool.{le-ltb, lt-ltb}
use Rattle.std.proofs.lemmas.List.{append-nil}
use Rattle.std.proofs.lemmas.List.Sums.{fold-append, count_by-le-length}
use Rattle.std.proofs.lemmas.List.Splits.{length-slice_split}
use Rattle.tk_stream.specs.Streams.{Sending}
use Rattle.tk_script.specs.Commands.{Said, Line, says, bad, is_setting, polls_in}
use Rattle.tk_script.specs.Commands as said
use Rattle.tk_live.specs.Course.{Course, step, step_on, start_of_all, line_after, course_of}
use Rattle.tk_script.specs.Pieces.{pieces_at}
use Rattle.tk_live.specs.Runs.{Represents, SilentSpec, CommandSpec}
use Rattle.tk_live.specs.Script.{FrontOf}
use Rattle.tk_live.specs.Stops.{Goes, AllGo, StopReason, StopsBy, command_stop, most_polls, stop_by_text}
use Rattle.tk_live.specs.declared.interpreter.Interpreter.{Interpreter}
use Rattle.tk_script.specs.declared.stop.Stop.{Stop}
use Rattle.tk_script.specs.declared.stop.Stop.TheVariants.{BadCommand, TooManyPolls, NoSuchItem, Call, OffersSpent, Clock, NumbersSpent, Memory, WriteFault, NoThread, Stopped}
use Rattle.tk_script.specs.declared.settings.Settings.{Settings}

-- a line that makes too many polls writes nothing
pub many_is_no_write : TooManyPolls ≡ WriteFault → ⊥
many_is_no_write e = cc

-- no line was sent
pub unsent : (i : Interpreter) (settings : Settings) (k : Course) (kept : List Bool) (sent : List Sending) → Represents i settings k kept sent → Represents i settings k kept (sent ++ [])
unsent i settings k kept sent stands = subst (λ (m : List Sending). Represents i settings k kept m) (sym (append-nil sent)) stands

-- nothing was recorded
pub unmarked : (i : Interpreter) (settings : Settings) (k : Course) (kept : List Bool) (sent : List Sending) → Represents i settings k kept sent → Represents i settings k (kept ++ []) sent
unmarked i settings k kept sent stands = subst (λ (m : List Bool). Represents i settings k m sent) (sym (append-nil kept)) stands

-- a command that writes nothing
pub quietly : (line : ℕ) (s : Said) (old new : Interpreter) (result : Result (Unit {0}) Stop) (before : Option (List ℕ)) → SilentSpec line s old new result → ((sent : List Sending) (stop : Stop) → FrontOf sent s stop []) → CommandSpec stop_by_text step line s old new result before before
quietly line s old new (Ok done) before does fronts settings c kept sent stands =
    let d = does settings c kept sent stands in
    (d.0, d.1, [], unsent new settings (step c line s) (kept ++ d.1) sent d.2, Appends-nil before)
quietly line s old new (Err stop) before does fronts settings c kept sent stands =
    (does settings c kept sent stands, [], fronts sent stop, Appends-nil before)

-- a command is begun
pub begun : (i new : Interpreter) (settings : Settings) (c : Course) (line : ℕ) (s : Said) (kept : List Bool) (sent : List Sending) → Represents i settings (step c line s) kept sent
    → (n : ℕ) (b : Bool) → new ≡ record i { polled = n; begun = b } → n ≡ c.polled + polls_in s → b ≡ (not (is_setting s) || c.begun)
    → Represents new settings (step_on c line s) kept sent
begun i new settings c line s kept sent stands n b is count same = subst (λ (n : Interpreter). Represents n settings (step_on c line s) kept sent) (sym is) (record {
  came = stands.came;
  rise = stands.rise;
  offered = stands.offered;
  takes = stands.takes;
  taken = stands.taken;
  gone = stands.gone;
  has_told = stands.has_told;
  timed = stands.timed;
  holds = stands.holds;
  linked = stands.linked;
  polled = count;
  capacity_said = stands.capacity_said;
  retention_said = stands.retention_said;
  times_said = stands.times_said;
  waits_said = stands.waits_said;
  begun = same;
  times_is = stands.times_is;
})

-- too many polls, with those of a command
pub too_many : (c : Course) (s : Said) (polled more all : ℕ) → polled ≡ c.polled → more ≡ polls_in s → all ≡ min (polled + more) (2 ^ 64 - 1) → most_polls < all → command_stop c s ≡ Some TooManyPolls
too_many c s polled more all is count sum many =
    let over : most_polls < c.polled + polls_in s = omega (arith, is, count, sum, many) in
    ap (λ (b : Bool). if b then Some TooManyPolls else stop_by_text c s) (lt-ltb most_polls (c.polled + polls_in s) over)

-- and not too many
pub few_enough : (c : Course) (s : Said) (polled more all : ℕ) → polled ≡ c.polled → more ≡ polls_in s → all ≡ min (polled + more) (2 ^ 64 - 1) → all ≤ most_polls
    → (command_stop c s ≡ stop_by_text c s) × (all ≡ c.polled + polls_in s)
few_enough c s polled more all is count sum few =
    let under : c.polled + polls_in s ≤ most_polls = omega (arith, is, count, sum, few) in
    (ap (λ (b : Bool). if b then Some TooManyPolls else stop_by_text c s) (le-ltb most_polls (c.polled + polls_in s) under), omega (arith, is, count, sum, few))

-- why it stops then
pub stops_still : (c : Course) (s : Said) (stop : Stop) → command_stop c s ≡ stop_by_text c s → StopReason c s stop → StopsBy (command_stop c s) c s stop
stops_still c s stop same (inl by_text) = inl (same ∙ by_text)
stops_still c s stop same (inr other) = inr other

-- nothing goes out of a command that stops, but at a fault of the writer
publish_front : (sent : List Sending) (m : ℕ) (whole : Bool) (stop : Stop) → (stop ≡ WriteFault → ⊥) → FrontOf sent (said.publish m whole) stop []
publish_front sent m whole BadCommand ne = refl
publish_front sent m whole TooManyPolls ne = refl
publish_front sent m whole NoSuchItem ne = refl
publish_front sent m whole (Call refusal) ne = refl
publish_front sent m whole OffersSpent ne = refl
publish_front sent m whole Clock ne = refl
publish_front sent m whole NumbersSpent ne = refl
publish_front sent m whole Memory ne = refl
publish_front sent m whole NoThread ne = refl
publish_front sent m whole Stopped ne = refl
publish_front sent m whole WriteFault ne = absurd (ne refl)

pub no_front : (sent : List Sending) (s : Said) (stop : Stop) → (stop ≡ WriteFault → ⊥) → FrontOf sent s stop []
no_front sent (said.task at kind name) stop ne = refl
no_front sent (said.start n m) stop ne = refl
no_front sent (said.finish n m) stop ne = refl
no_front sent (said.polls n count m run every) stop ne = refl
no_front sent (said.close n m) stop ne = refl
no_front sent (said.self_wake n m) stop ne = refl
no_front sent (said.clone n) stop ne = refl
no_front sent (said.again n) stop ne = refl
no_front sent (said.wake_ref n m) stop ne = refl
no_front sent (said.wake n m) stop ne = refl
no_front sent (said.release n) stop ne = refl
no_front sent (said.resource at kind concrete attrs) stop ne = refl
no_front sent (said.close_resource n m) stop ne = refl
no_front sent (said.change_resource n i change) stop ne = refl
no_front sent (said.op at r source attrs) stop ne = refl
no_front sent (said.op_task n t) stop ne = refl
no_front sent (said.start_op n m) stop ne = refl
no_front sent (said.finish_op n m) stop ne = refl
no_front sent (said.close_op n m) stop ne = refl
no_front sent (said.change_op n i change) stop ne = refl
no_front sent (said.poll_op r o t name ready) stop ne = refl
no_front sent (said.capacity n) stop ne = refl
no_front sent (said.retention n) stop ne = refl
no_front sent said.times stop ne = refl
no_front sent said.waits stop ne = refl
no_front sent (said.publish m whole) stop ne = publish_front sent m whole stop ne

-- a line more has the next number
pub enumerate_push : {X : Type 0} (n : ℕ) (xs : List X) (x : X) → enumerate_from n (xs ++ x ∷ []) ≡ enumerate_from n xs ++ (n + length xs, x) ∷ []
enumerate_push n [] x = let e : n ≡ n + 0 = omega arith in ap (λ m. (m, x) ∷ []) e
enumerate_push n (y ∷ xs) x =
    let e : (n + 1) + length xs ≡ n + length (y ∷ xs) = omega arith in
    ap (λ ps. (n, y) ∷ ps) (enumerate_push (n + 1) xs x ∙ ap (λ m. enumerate_from (n + 1) xs ++ (m, x) ∷ []) e)

all_go_push : (c : Course) (ls : List (ℕ × Line)) (l : ℕ × Line) → AllGo c ls → Goes (fold line_after c ls) l → AllGo c (ls ++ l ∷ [])
all_go_push c [] l all goes = (goes, tt)
all_go_push c (m ∷ ms) l all goes = (all.0, all_go_push (line_after c m) ms l all.1 goes)

-- one line more
pub course_push : (before : List Line) (number : ℕ) (line : Line) → number ≡ length before + 1 → course_of (before ++ line ∷ []) ≡ line_after (course_of before) (number, line)
course_push before number line counted =
    let e : 1 + length before ≡ number = omega (arith, counted) in
    ap (λ ls. fold line_after start_of_all ls) (enumerate_push 1 before line ∙ ap (λ n. enumerate_from 1 before ++ (n, line) ∷ []) e) ∙ fold-append line_after start_of_all (enumerate_from 1 before) ((number, line) ∷ [])

pub goes_more : (before : List Line) (number : ℕ) (line : Line) → number ≡ length before + 1 → AllGo start_of_all (enumerate_from 1 before) → Goes (course_of before) (number, line) → AllGo start_of_all (enumerate_from 1 (before ++ line ∷ []))
goes_more before number line counted all goes =
    let e : number ≡ 1 + length before = omega (arith, counted) in
    subst (λ ls. AllGo start_of_all ls) (ap (λ n. enumerate_from 1 before ++ (n, line) ∷ []) e ∙ sym (enumerate_push 1 before line)) (all_go_push start_of_all (enumerate_from 1 before) (number, line) all goes)

-- there are at most as many lines as bytes, and one more
pub few_lines : (script : List ℕ) (before more : List (List ℕ)) → pieces_at 10 script ≡ before ++ more → length before ≤ length script + 1
few_lines script before more cut =
    omega (arith, length-slice_split (λ b. b == 10) script, count_by-le-length (λ b. b == 10) script, ap length cut, length-append before more)
