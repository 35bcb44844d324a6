-- What the steps of the check promise, in the words of the check that goes octet by octet.
use Rattle.std.specs.Prelude.{◌≡◌, Bool, true, false, List, ℕ, ◌+◌, ◌≤◌, ◌<◌, length, drop, Option, MatchOption}
use Rattle.text_spec.specs.Check.{goes_on, is_text}

-- n octets from `at` on belong to a sequence, the first of them from low to high, whatever k are to come behind them; or they do not
pub record Over (m : List ℕ) (at n low high : ℕ) (r : Bool) : Type 0 where
  pub yes : r ≡ true → (at + n ≤ length m) × ((k : ℕ) → goes_on (drop at m) (n + k) low high ≡ goes_on (drop (at + n) m) k 128 191)
  pub no : r ≡ false → (k : ℕ) → goes_on (drop at m) (n + k) low high ≡ false

-- a sequence stands from `at` to where r says; or none does
abbrev pub Ends : (m : List ℕ) (at : ℕ) → Option ℕ → Type 0
Ends m at r = MatchOption r (is_text (drop at m) ≡ false) (λ end. (at < end) × (end ≤ length m) × (is_text (drop at m) ≡ is_text (drop end m)))
