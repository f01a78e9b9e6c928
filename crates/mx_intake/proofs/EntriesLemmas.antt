-- What a text of JSON reads as, and what the values of a list give.
use Rattle.std.proofs.Common.{◌≡◌, ◌≤◌, ◌<◌, ℕ, List, length, true, false, Some, None, Ok, Err, arith, nat_lt}
use Rattle.std.proofs.lemmas.Bool.Decides.{nat_tests}
use Rattle.std.specs.Prelude.{Vec}
use Rattle.std.specs.declared.alloc.Global.{Global}
use Rattle.serde_json.specs.Data.{Data}
use Rattle.serde_json.specs.Read.{read}
use Rattle.serde_json.specs.View.{view, items_view}
use Rattle.serde_json.specs.declared.value.Value.{Value, Array}
use Rattle.serde_json.proofs.Views.{view-Array, items_len-items_view}
use Rattle.mx_intake.specs.Entries.{value_of_text, entries_of_value, entries_from}
use Rattle.mx_intake.specs.Fault.{fault}
use Rattle.mx_intake.specs.Text.{text_of_bytes}
use Rattle.mx_intake.specs.declared.fault.IntakeFault.{IntakeFault}
use Rattle.mx_intake.proofs.ReadingLemmas.{text_of_bytes-long, reading_of-read, reading_of-refused, reading_of-fault}

pub value_of_text-read : (bs text : List ℕ) (d : Data) → text_of_bytes bs ≡ Ok text → read text ≡ Some d → value_of_text bs ≡ Ok d
unfolding value_of_text
value_of_text-read bs text d e h = reading_of-read read (text_of_bytes bs) text d e h

pub value_of_text-refused : (bs text : List ℕ) → text_of_bytes bs ≡ Ok text → read text ≡ None → value_of_text bs ≡ Err (fault 61 0)
unfolding value_of_text
value_of_text-refused bs text e h = reading_of-refused read (text_of_bytes bs) text e h

pub value_of_text-fault : (bs : List ℕ) (f : IntakeFault) → text_of_bytes bs ≡ Err f → value_of_text bs ≡ Err f
unfolding value_of_text
value_of_text-fault bs f e = reading_of-fault read (text_of_bytes bs) f e

pub value_of_text-long : (bs : List ℕ) → 8388608 < length bs → value_of_text bs ≡ Err (fault 67 0)
value_of_text-long bs h = value_of_text-fault bs (fault 67 0) (text_of_bytes-long bs h)

over : (n : ℕ) → 10000 < n → nat_lt 10000 n ≡ true
over n h = grind (arith, nat_tests)

not_over : (n : ℕ) → n ≤ 10000 → nat_lt 10000 n ≡ false
not_over n h = grind (arith, nat_tests)

pub entries_of_value-long : (v : Value) (list : Vec Value Global) → v ≡ Array list → 10000 < length list.items → entries_of_value (view v) ≡ Err (fault 67 0)
entries_of_value-long v list e h = rw (e, view-Array list, items_len-items_view list.items, over (length list.items) h)

pub entries_of_value-list : (v : Value) (list : Vec Value Global) (vs : List Value) → v ≡ Array list → vs ≡ list.items → length vs ≤ 10000 → entries_of_value (view v) ≡ entries_from 1 (items_view vs)
entries_of_value-list v list vs e s h = rw (e, view-Array list, ← s, items_len-items_view vs, not_over (length vs) h)
