-- What a lent buffer holds after octets were laid over it.
use Rattle.std.specs.Prelude.{List, ◌++◌, ℕ, ◌+◌, length, take, drop}

-- out, with s over it from `at` on
unfoldable pub over : (out : List ℕ) (at : ℕ) (s : List ℕ) → List ℕ
over out at s = take at out ++ (s ++ drop (at + length s) out)
