-- Worked examples, computed by the definitions: plans by the judge, runs by the checked machine.
use Rattle.std.specs.Prelude.{◌≡◌, ℕ, List, [], ◌∷◌, negsuc, Some, None}
use Rattle.bytecode.specs.declared.kind.Kind.TheVariants.{Unknown, Word, Reference}
use Rattle.bytecode.specs.declared.stop.Stop.TheVariants.{Divide, Cells}
use Rattle.bytecode.specs.declared.instruction.Instruction.TheVariants.{Goto}
use Rattle.bytecode.specs.Instructions.{instruction_of, target}
use Rattle.bytecode.specs.Outcome.{good}
use Rattle.bytecode.specs.Program.{Program}
use Rattle.heap.specs.Checked.{single, array, room}
use Rattle.host.specs.Hosts.{Host, stop_with}
use Rattle.plan.specs.Shapes.{changed, merge}
use Rattle.plan.specs.Sweep.{off, judge}
use Rattle.plan.specs.Samples.{giving, main_of, shaped, stacked}
use Rattle.word.specs.Words.{wrap}
use Rattle.checked.specs.Runs.{live, Answer, continues, ends, stops, respond, run}
use Rattle.checked.specs.Machine.{begins, checked_machine}

-- a host without natives
abbrev pub no_host : Host (Unit {0})
no_host = record { signs = λ i. None; replies = λ s c. stop_with 0; becomes = λ s c. s }

-- what a run of so many steps answers, with a frame of 32 slots, so many cells, and one block record
abbrev pub answer_of : Program → ℕ → ℕ → Answer
answer_of P cells allowance =
    (respond (checked_machine P (record { slots = 32; frames = 1; cells = cells; records = 1 })) (run no_host tt allowance) (live 0 (begins 0))).answer

-- a program without functions but main, with one integer
abbrev pub with_integer : ℕ → List ℕ → Program
with_integer n code = record { integers = n ∷ []; strings = []; functions = giving [] 0 code ∷ []; natives = [] }

-- bipush 6, bipush 7, imul, return
abbrev pub six_sevens : List ℕ
six_sevens = 0x10 ∷ 0x06 ∷ 0x10 ∷ 0x07 ∷ 0x68 ∷ 0xB0 ∷ []

pub record Samples (product : ℕ) : Type 0 where
  -- the stacks of six times seven at 0, 2, 4 and 5 are empty, w, w w and w; it ends after four steps, and not before
  pub stacks : judge (main_of six_sevens) ≡ good ((stacked [] ∷ off ∷ stacked (Word ∷ []) ∷ off ∷ stacked (Word ∷ Word ∷ []) ∷ stacked (Word ∷ []) ∷ []) ∷ [], 4)
  pub ending : answer_of (main_of six_sevens) 0 4 ≡ ends product 4
  pub going : answer_of (main_of six_sevens) 0 3 ≡ continues 3
  -- −7 by 2 gives −3, remainder −1
  pub quotient : answer_of (main_of (0x10 ∷ 0xF9 ∷ 0x10 ∷ 0x02 ∷ 0x6C ∷ 0xB0 ∷ [])) 0 9 ≡ ends (wrap (negsuc 2)) 4
  pub remainder : answer_of (main_of (0x10 ∷ 0xF9 ∷ 0x10 ∷ 0x02 ∷ 0x70 ∷ 0xB0 ∷ [])) 0 9 ≡ ends (wrap (negsuc 0)) 4
  -- the least word by −1 stops, at place 5
  pub least : answer_of (with_integer 0x80000000 (0x13 ∷ 0x00 ∷ 0x00 ∷ 0x10 ∷ 0xFF ∷ 0x6C ∷ 0xB0 ∷ [])) 0 9 ≡ stops Divide 0 5 3
  -- 1 shifted left by 33 is 2
  pub shift : answer_of (main_of (0x10 ∷ 0x01 ∷ 0x10 ∷ 0x21 ∷ 0x78 ∷ 0xB0 ∷ [])) 0 9 ≡ ends 2 4
  -- bipush 80 (hexadecimal) is −128
  pub byte : answer_of (main_of (0x10 ∷ 0x80 ∷ 0xB0 ∷ [])) 0 9 ≡ ends (wrap (negsuc 127)) 2
  -- an offset of FF FD at place 9 goes to 6
  pub offset : instruction_of 0xA7 0xFF 0xFD ≡ Some (Goto (negsuc 2))
  pub back : target 9 (negsuc 2) ≡ Some 6
  -- newarray 4 with n = 3 takes 3 cells: two do not suffice; new 0 takes none
  pub three : room (array 3 4) ≡ 3
  pub enough : answer_of (main_of (0x10 ∷ 0x03 ∷ 0xBC ∷ 0x04 ∷ 0xBE ∷ 0xB0 ∷ [])) 3 9 ≡ ends 3 4
  pub short : answer_of (main_of (0x10 ∷ 0x03 ∷ 0xBC ∷ 0x04 ∷ 0xBE ∷ 0xB0 ∷ [])) 2 9 ≡ stops Cells 0 2 2
  pub none : room (single 0) ≡ 0
  pub empty : answer_of (main_of (0xBB ∷ 0x00 ∷ 0x57 ∷ 0x10 ∷ 0x00 ∷ 0xB0 ∷ [])) 0 9 ≡ ends 0 4
  -- variables (w, a) met by (w, w) leave (w, none)
  pub meeting : merge (shaped [] (Word ∷ Reference ∷ [])) (shaped [] (Word ∷ Word ∷ [])) ≡ changed (shaped [] (Word ∷ Unknown ∷ []))
