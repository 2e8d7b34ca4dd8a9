-- What is the same as its copy. No public clause cites this.
use Rattle.std.specs.Prelude.{◌≡◌, ℕ}
use Rattle.tk_stream.specs.Times.{TaskTimes}

-- poll counts whose parts are copies are the same
pub same_counts : (a b : ℕ × ℕ × ℕ) → (b.0 ≡ a.0) × (b.1 ≡ a.1) × (b.2 ≡ a.2) → b ≡ a
same_counts a b e = λ i. (e.0 i, e.1 i, e.2 i)

-- histograms of tasks whose parts are copies are the same
pub same_times : (a b : TaskTimes) → (b.0 ≡ a.0) × (b.1 ≡ a.1) → b ≡ a
same_times a b e = λ i. (e.0 i, e.1 i)
