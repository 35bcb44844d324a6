-- The check that goes octet by octet.
use Rattle.std.specs.Prelude.{Bool, true, false, cond, Option, Some, None, List, [], ◌∷◌, ℕ, zero, suc, ◌-◌, eqb, leb}
use Rattle.std.specs.Int.Count.{count_leading_zeros}
use Rattle.form_spec.specs.Words.{◌$◌, choose, in_range}
use Rattle.text_spec.specs.declared.Start.{Start}

-- how many leading bits of an octet are one
abbrev pub ones : ℕ → ℕ
ones x = count_leading_zeros 8 (255 - x)

-- the second octet: behind E0 and F0 a lesser one would make an overlong form,
unfoldable pub least : ℕ → ℕ
least x = choose (eqb x 224) 160 $ choose (eqb x 240) 144 128

-- behind ED a greater one a surrogate, behind F4 a value above U+10FFFF
unfoldable pub most : ℕ → ℕ
most x = choose (eqb x 237) 159 $ choose (eqb x 244) 143 191

-- so many more octets belong to the sequence, the next of them from low to high
abbrev pub follow : (more low high : ℕ) → Option Start
follow more low high = Some (record { more = more; low = low; high = high })

-- the leading ones of the first octet tell the sequence's length; C0 and C1 start overlong forms alone, F5 to F7 values above U+10FFFF
unfoldable pub start_of : ℕ → Option Start
start_of x =
    choose (eqb (ones x) 0) (follow 0 128 191)
    $ choose (eqb (ones x) 2) (choose (leb 194 x) (follow 1 128 191) None)
    $ choose (eqb (ones x) 3) (follow 2 (least x) (most x))
    $ choose (eqb (ones x) 4) (choose (leb x 244) (follow 3 (least x) (most x)) None) None

-- what follows a sequence's first octet, told by what that octet says
abbrev pub started : (ℕ → ℕ → ℕ → Bool) → Option Start → Bool
started f (Some s) = f s.more s.low s.high
started f None = false

-- so many more octets belong to the sequence at hand, the next of them from low to high; behind them text goes on
unfoldable pub goes_on : List ℕ → (more low high : ℕ) → Bool
goes_on [] zero low high = true
goes_on [] (suc n) low high = false
goes_on (x ∷ rest) zero low high = started (goes_on rest) (start_of x)
goes_on (x ∷ rest) (suc n) low high = cond (in_range low x high) (goes_on rest n 128 191) false

-- the octets pass
abbrev pub is_text : List ℕ → Bool
is_text bs = goes_on bs 0 128 191
