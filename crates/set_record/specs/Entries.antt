-- The times, an entry and a row as bytes, in a set as in a packed record.
use Rattle.std.specs.Prelude.{ℕ, ◌+◌, ◌/◌, ◌%◌, List, [], ◌∷◌, ◌++◌, get_or}
use Rattle.base_bytes.specs.Bytes.{byte, number, two_bytes}
use Rattle.set_plan.specs.declared.NodeEntry.{NodeEntry}
use Rattle.set_plan.specs.declared.Row.{Row}
use Rattle.set_plan.specs.declared.Times.{Times}
use Rattle.set_plan.specs.Record.{entry_at, row_at}

-- "seven times in ticks of 1 ms ..: W window, D clock stop, S node sleep, E quiet limit, R wake-up recovery, P wake-up space, C clock start"
unfoldable pub times_from : List ℕ → ℕ → Times
times_from s o =
    record { window = number s o; stop = number s (o + 2); sleep = number s (o + 4); quiet = number s (o + 6); recovery = number s (o + 8); space = number s (o + 10); start = number s (o + 12) }

abbrev pub times_bytes : Times → List ℕ
times_bytes t =
    two_bytes t.window ++ two_bytes t.stop ++ two_bytes t.sleep ++ two_bytes t.quiet ++ two_bytes t.recovery ++ two_bytes t.space ++ two_bytes t.start

-- byte i of places of four bytes each, those of place k given
abbrev pub four_byte_at : (ℕ → List ℕ) → ℕ → ℕ
four_byte_at place i = get_or (place (i / 4)) (i % 4) 0

-- the four bytes from an offset on
abbrev pub four_from : List ℕ → ℕ → List ℕ
four_from s o = byte s o ∷ byte s (o + 1) ∷ byte s (o + 2) ∷ byte s (o + 3) ∷ []

-- "entries of 4 bytes: address ..; diagnostic class ..; method ..; 0"
unfoldable pub entry_from : List ℕ → ℕ → NodeEntry
entry_from s o = record { address = byte s o; class = byte s (o + 1); method = byte s (o + 2); reserved = byte s (o + 3) }

abbrev pub entry_bytes : NodeEntry → List ℕ
entry_bytes e = e.address ∷ e.class ∷ e.method ∷ e.reserved ∷ []

-- byte i of the entries
abbrev pub entry_byte_at : List NodeEntry → ℕ → ℕ
entry_byte_at nodes i = four_byte_at (λ k. entry_bytes (entry_at nodes k)) i

-- "rows of 4 bytes: ReqId ..; publisher ..; length ..; 1 if it carries a sequence count, else 0"
unfoldable pub row_from : List ℕ → ℕ → Row
row_from s o = record { reqid = byte s o; publisher = byte s (o + 1); length = byte s (o + 2); kind = byte s (o + 3) }

abbrev pub row_bytes : Row → List ℕ
row_bytes r = r.reqid ∷ r.publisher ∷ r.length ∷ r.kind ∷ []

-- byte i of the rows
abbrev pub row_byte_at : List Row → ℕ → ℕ
row_byte_at rows i = four_byte_at (λ j. row_bytes (row_at rows j)) i
