-- What a record gives notice of, from what code has found of it.
use Rattle.std.proofs.Common.{◌≡◌, ℕ, true, false, sym, refl, ap}
use mathlib.Core.Bool.{false≢true}
use Rattle.record_spec.specs.declared.States.{States}
use Rattle.record_spec.specs.Shown.{Shown, Nothing, Good}
use Rattle.record_spec.specs.declared.Body.TheVariants as body
use Rattle.look_spec.specs.Sort.{is_route, is_change}
use Rattle.look_spec.specs.Field.{sequence_of, states_of}
use Rattle.report_spec.specs.Notice.{notice_of}
use Rattle.report_spec.specs.declared.Notice.TheVariants.{Plain, Change, Sequence}
use Rattle.std.specs.Prelude.{Err}

pub notice-sequence : (x : Shown) (s : ℕ) → is_route x ≡ true → s ≡ sequence_of x → Sequence s ≡ notice_of x
notice-sequence Nothing s r e = absurd (false≢true r)
notice-sequence (Err why) s r e = absurd (false≢true r)
notice-sequence (Good h (body.Unread c)) s r e = absurd (false≢true r)
notice-sequence (Good h (body.TableDump t)) s r e = ap Sequence e
notice-sequence (Good h (body.PeerTable p)) s r e = absurd (false≢true r)
notice-sequence (Good h (body.Rib t)) s r e = absurd (false≢true r)
notice-sequence (Good h (body.RibGeneric f t)) s r e = absurd (false≢true r)
notice-sequence (Good h (body.Change t w)) s r e = absurd (false≢true r)
notice-sequence (Good h (body.Message t b)) s r e = absurd (false≢true r)

pub notice-change : (x : Shown) (w : States) → is_change x ≡ true → w ≡ states_of x → Change w.old w.new ≡ notice_of x
notice-change Nothing w r e = absurd (false≢true r)
notice-change (Err why) w r e = absurd (false≢true r)
notice-change (Good h (body.Unread c)) w r e = absurd (false≢true r)
notice-change (Good h (body.TableDump t)) w r e = absurd (false≢true r)
notice-change (Good h (body.PeerTable p)) w r e = absurd (false≢true r)
notice-change (Good h (body.Rib t)) w r e = absurd (false≢true r)
notice-change (Good h (body.RibGeneric f t)) w r e = absurd (false≢true r)
notice-change (Good h (body.Change t v)) w r e = ap (λ (s : States). Change s.old s.new) e
notice-change (Good h (body.Message t b)) w r e = absurd (false≢true r)

pub notice_plain : (x : Shown) → is_route x ≡ false → is_change x ≡ false → Plain ≡ notice_of x
notice_plain Nothing r c = refl
notice_plain (Err why) r c = refl
notice_plain (Good h (body.Unread b)) r c = refl
notice_plain (Good h (body.TableDump t)) r c = absurd (false≢true (sym r))
notice_plain (Good h (body.PeerTable p)) r c = refl
notice_plain (Good h (body.Rib t)) r c = refl
notice_plain (Good h (body.RibGeneric f t)) r c = refl
notice_plain (Good h (body.Change t v)) r c = absurd (false≢true (sym c))
notice_plain (Good h (body.Message t b)) r c = refl
