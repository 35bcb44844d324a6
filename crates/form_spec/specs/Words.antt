-- The words of a page of layouts. They stay shut in proofs of code: the rules of octets_laws go by them.
use Rattle.std.specs.Prelude.{Bool, false, cond, List, ℕ, leb}
use Rattle.form_spec.specs.Octets.{be}
use Rattle.form_spec.specs.Fmt.{Fmt, end, test, field}

infixr 1 ◌$◌
abbrev pub ◌$◌ : {A B : Type 0} → (A → B) → A → B
f $ x = f x

-- `cond`, but shut
unfoldable pub choose : {A : Type 0} → Bool → A → A → A
choose t a b = cond t a b

-- a number of w octets, on which what follows depends
unfoldable pub num : ℕ → ℕ → (ℕ → Fmt) → Fmt
num name w k = field name w 0 λ c. k (be c)

-- w octets that are carried
unfoldable pub skip : ℕ → ℕ → Fmt → Fmt
skip name w f = field name w 0 λ c. f

-- w octets, on which what follows depends
unfoldable pub part : ℕ → ℕ → (List ℕ → Fmt) → Fmt
part name w k = field name w 0 k

-- the fault n at the field of w octets that ends here, unless ok
unfoldable pub must : Bool → ℕ → ℕ → Fmt → Fmt
must ok n w f = test (cond ok 0 n) w f

-- the fault n at the field of w octets that ends here
unfoldable pub fail : ℕ → ℕ → Fmt
fail n w = test n w (end 0)

-- a number of w octets with its own check: the fault n at it unless ok
unfoldable pub checked : ℕ → ℕ → (ℕ → Bool) → ℕ → (ℕ → Fmt) → Fmt
checked name w ok n k = field name w 0 λ c. test (cond (ok (be c)) 0 n) w (k (be c))

-- v is one of lo to hi
unfoldable pub in_range : (lo v hi : ℕ) → Bool
in_range lo v hi = cond (leb lo v) (leb v hi) false

-- w octets with their own check
unfoldable pub tested : ℕ → ℕ → (List ℕ → Bool) → ℕ → Fmt → Fmt
tested name w ok n f = field name w 0 λ c. test (cond (ok c) 0 n) w f

-- w octets that are carried; their lack is placed so far back
unfoldable pub area : (name w back : ℕ) → Fmt → Fmt
area name w back f = field name w back λ c. f
