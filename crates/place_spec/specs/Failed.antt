-- What a fault says of the octets that a format was read in: the fields before the one that failed pass, that field starts at the fault's place,
-- and why it fails there.
use Rattle.std.specs.Prelude.{◌≡◌, Bool, true, not, ◌||◌, ◌⊎◌, List, [], ◌∷◌, ◌++◌, ℕ, ◌<◌, eqb, length}
use Rattle.form_spec.specs.Fmt.{Fmt, end, test, field, join}
use Rattle.place_spec.specs.About.{about, there_from}

-- what the format lays out behind its first fields cs
unfoldable pub behind_fields : Fmt → List (List ℕ) → Fmt
behind_fields (end b) cs = end b
behind_fields (test n b f) [] = test n b f
behind_fields (test n b f) (c ∷ cs) = behind_fields f (c ∷ cs)
behind_fields (field x l b k) [] = field x l b k
behind_fields (field x l b k) (c ∷ cs) = behind_fields (k c) cs

-- cs are its first fields: each is complete, and the tests between them pass
unfoldable pub FieldsPass : Fmt → List (List ℕ) → Type 0
FieldsPass (end b) [] = Unit
FieldsPass (end b) (c ∷ cs) = ⊥
FieldsPass (test n b f) [] = Unit
FieldsPass (test n b f) (c ∷ cs) = (n ≡ 0) × FieldsPass f (c ∷ cs)
FieldsPass (field x l b k) [] = Unit
FieldsPass (field x l b k) (c ∷ cs) = (length c ≡ l) × FieldsPass (k c) cs

-- the numbers that a test gives; 5 and 6 are about octets that are not there, or too many
unfoldable pub judged : ℕ → Bool
judged n = not (eqb n 0 || eqb n 5 || eqb n 6)

-- behind the fields cs, which pass, the octets r are left and the fault is n: nothing more is laid out and octets are left over (6); a test
-- gives n; or a field is not complete (5)
unfoldable pub Fails : Fmt → (cs : List (List ℕ)) (r : List ℕ) (n : ℕ) → Type 0
Fails (end b) [] r n = (n ≡ 6) × (0 < length r)
Fails (end b) (c ∷ cs) r n = ⊥
Fails (test m b f) [] r n = ((m ≡ n) × (judged n ≡ true)) ⊎ ((m ≡ 0) × Fails f [] r n)
Fails (test m b f) (c ∷ cs) r n = (m ≡ 0) × Fails f (c ∷ cs) r n
Fails (field x l b k) [] r n = (n ≡ 5) × (length r < l)
Fails (field x l b k) (c ∷ cs) r n = (length c ≡ l) × Fails (k c) cs r n

-- the format starts with a field, and the octets r end before it is complete
unfoldable pub Lacks : Fmt → (r : List ℕ) → Type 0
Lacks (end b) r = ⊥
Lacks (test n b f) r = (n ≡ 0) × Lacks f r
Lacks (field x l b k) r = length r < l

-- it has no field more
unfoldable pub NoFieldLeft : Fmt → Type 0
NoFieldLeft (end b) = Unit
NoFieldLeft (test n b f) = (n ≡ 0) × NoFieldLeft f
NoFieldLeft (field x l b k) = ⊥

-- the name of the format's first field; 0 where it has none
unfoldable pub name_of : Fmt → ℕ
name_of (end b) = 0
name_of (test n b f) = name_of f
name_of (field x l b k) = x

-- the name of the last of its first fields cs, where `before` is that of the field before them
unfoldable pub latest_of : (before : ℕ) → Fmt → List (List ℕ) → ℕ
latest_of p (end b) cs = p
latest_of p (test n b f) cs = latest_of p f cs
latest_of p (field x l b k) [] = p
latest_of p (field x l b k) (c ∷ cs) = latest_of x (k c) cs

-- the octets m, read by the format behind a field of the name `behind`, have the fault n at the place p: the fields before it, those complete
-- from it on, and the octets left; how many fields are complete from it on, and the field's name, are as the table of places says
pub record Failed (behind : ℕ) (f : Fmt) (m : List ℕ) (n p : ℕ) : Type 0 where
  pub before : List (List ℕ)
  pub there : List (List ℕ)
  pub rest : List ℕ
  pub octets : join before ++ (join there ++ rest) ≡ m
  pub place : p ≡ length (join before)
  pub passes : FieldsPass f before
  pub fails : Fails (behind_fields f before) there rest n
  pub counts : length there ≡ there_from n (latest_of behind f (before ++ there)) (name_of (behind_fields f (before ++ there)))
  pub names : about n (name_of (behind_fields f before)) ≡ true
