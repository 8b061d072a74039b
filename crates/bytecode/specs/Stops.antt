-- What an instruction comes to: a value, or a stop.
use Rattle.std.specs.Prelude.{ℕ}
use Rattle.bytecode.specs.declared.stop.Stop.{Stop}
use Rattle.bytecode.specs.declared.stop.Stop.TheVariants.{Divide, Null, Bounds, Array, Text, Alignment, Mark, Length, Cells, Calls, Host, Native}

pub data Attempt (A : Type 0) : Type 0 where
  gives : A → Attempt A
  stops : Stop → Attempt A

abbrev pub and_then : {A B : Type 0} → Attempt A → (A → Attempt B) → Attempt B
and_then (gives a) f = f a
and_then (stops e) f = stops e

-- the number of each stop, and the host's code (0 for every other stop)
abbrev pub stop_number : Stop → ℕ
stop_number Divide = 1
stop_number Null = 2
stop_number Bounds = 3
stop_number Array = 4
stop_number Text = 5
stop_number Alignment = 6
stop_number Mark = 7
stop_number Length = 8
stop_number Cells = 9
stop_number Calls = 10
stop_number (Host fault) = 11
stop_number Native = 12

abbrev pub stop_code : Stop → ℕ
stop_code Divide = 0
stop_code Null = 0
stop_code Bounds = 0
stop_code Array = 0
stop_code Text = 0
stop_code Alignment = 0
stop_code Mark = 0
stop_code Length = 0
stop_code Cells = 0
stop_code Calls = 0
stop_code (Host fault) = fault.code
stop_code Native = 0
