-- What each writer is given is of that writer's form.
use mathlib.Core.Path.{refl}
use mathlib.Core.Logic.{inl, inr}
use mathlib.Core.List.{List, ◌++◌}
use Prim.Native.Nat.{ℕ}
use native.Mathlib.Omega.{arith}
use lib.ListN.{drop}
use Rattle.form_spec.specs.Octets.{Octets}
use Rattle.form_spec.specs.Words.{choose}
use Rattle.form_spec.specs.Put.{Value}
use Rattle.form_spec.specs.Gives.{OctetsIn}
use Rattle.form_laws.proofs.Octets.{octets-take, octets-drop}
use Rattle.write_spec.specs.Times.{micro_size, micros}
use Rattle.write_spec.specs.Only.{table_dumps, peer_tables, ribs, generic_ribs, changes, messages, unreads}
use Rattle.write_spec.specs.Givens.{bgp_values, unread_given, table_dump_given, peer_table_given, rib_given, rib_generic_given, change_given, message_given}
use Rattle.write_spec.specs.declared.Time.{Time}
use Rattle.write_spec.specs.declared.Time.TheVariants.{Seconds, Micro}
use Rattle.record_laws.specs.Forms.{forms_for}
use Rattle.record_laws.proofs.Given.{formed-change, formed-message, formed_unread}
use Rattle.record_laws.proofs.Written.{Fair}

pub fair_table_dump : (t u v s : ℕ) (prefix : List ℕ) (b k o : ℕ) (address : List ℕ) (p : ℕ) (a : List ℕ) → Octets prefix → Octets address → Octets a
    → Fair table_dumps (table_dump_given t u v s prefix b k o address p a)
unfolding forms_for choose
fair_table_dump t u v s prefix b k o address p a x y z =
    record { octets = (tt, (tt, (x, (tt, (tt, (tt, (y, (tt, (tt, (z, tt)))))))))); tail = inl refl; form = refl }

pub fair_peer_table : (t c : ℕ) (name : List ℕ) (n : ℕ) (peers : List ℕ) → Octets name → Octets peers → Fair peer_tables (peer_table_given t c name n peers)
unfolding forms_for choose
fair_peer_table t c name n peers x y = record { octets = (tt, (tt, (x, tt))); tail = (y, omega arith, omega arith); form = refl }

pub fair_rib : (t u s b : ℕ) (prefix : List ℕ) (n : ℕ) (entries : List ℕ) → Octets prefix → Octets entries → Fair ribs (rib_given t u s b prefix n entries)
unfolding forms_for choose
fair_rib t u s b prefix n entries x y = record { octets = (tt, (tt, (x, tt))); tail = (y, omega arith, omega arith); form = refl }

pub fair_generic : (t s f i b : ℕ) (prefix : List ℕ) (n : ℕ) (entries : List ℕ) → Octets prefix → Octets entries → Fair generic_ribs (rib_generic_given t s f i b prefix n entries)
unfolding forms_for choose
fair_generic t s f i b prefix n entries x y = record { octets = (tt, (tt, (tt, (tt, (x, tt))))); tail = (y, omega arith, omega arith); form = refl }

-- microseconds are a number
behind_time : (i : Time) (vs : List Value) → OctetsIn vs → OctetsIn (micros i ++ vs)
behind_time (Seconds t) vs o = o
behind_time (Micro t n) vs o = (tt, o)

pub fair_change : (i : Time) (u p l f k : ℕ) (theirs ours : List ℕ) (o n : ℕ) → Octets theirs → Octets ours → Fair changes (change_given i u p l f k theirs ours o n)
fair_change i u p l f k theirs ours o n x y =
    record { octets = behind_time i _ (tt, (tt, (tt, (tt, (x, (y, (tt, (tt, tt)))))))); tail = inr (inl refl); form = formed-change i u p l f k theirs ours o n }

pub fair_message : (i : Time) (u p l f k : ℕ) (theirs ours b : List ℕ) → Octets theirs → Octets ours → Octets b → Fair messages (message_given i u p l f k theirs ours b)
fair_message i u p l f k theirs ours b x y z =
    let parts : OctetsIn (bgp_values b) = (octets-take 16 b z, (octets-take 2 (drop 16 b) (octets-drop 16 b z), (octets-take 1 (drop 18 b) (octets-drop 18 b z), (octets-drop 19 b z, tt)))) in
    record {
      octets = behind_time i _ (tt, (tt, (tt, (tt, (x, (y, parts))))));
      tail = inr (inr refl);
      form = formed-message i u p l f k theirs ours b;
    }

pub fair_unread : (i : Time) (y u : ℕ) (r : List ℕ) → Octets r → Fair (unreads (micro_size i)) (unread_given i y u r)
fair_unread (Seconds t) y u r o = record { octets = tt; tail = (o, omega arith); form = formed_unread (Seconds t) y u r }
fair_unread (Micro t n) y u r o = record { octets = (tt, tt); tail = (o, omega arith); form = formed_unread (Micro t n) y u r }
