-- What the judgement of a program says of its plans.
use Rattle.std.specs.Prelude.{◌≡◌, ℕ, zero, suc, ◌+◌, ◌<◌, ◌≤◌, Bool, ◌⊎◌, List, [], length, ◌≢◌, slice_index_or}
use Rattle.bytecode.specs.Instructions.{starts_of}
use Rattle.bytecode.specs.Outcome.{Fault, bad, good}
use Rattle.bytecode.specs.Program.{Program}
use Rattle.plan.specs.Programs.{code_at, WellFormed}
use Rattle.plan.specs.Shapes.{Shape}
use Rattle.plan.specs.Starts.{Marked}
use Rattle.plan.specs.Plans.{Plan, starts_at, Good, Fullest}
use Rattle.plan.specs.Sweep.{marked, Table, at, plan_of, Answer, most, sweep_within, sweep_marks, sweep_function, Judgement, judge}

-- ## One function

-- the table of a function after its sweep: a cell for each byte of its code, no mark left, and the fullest plan
pub record Settled (P : Program) (f : ℕ) (T : Table) : Type 0 where
  pub fullest : Fullest P f (plan_of T)
  pub unmarked : (q : ℕ) (s : Shape) → at T q ≢ marked s
  pub size : length T ≡ length (code_at P f)

abbrev pub Planless : Program → ℕ → Type 0
Planless P f = (plan : Plan) → Good P f plan → ⊥

-- the sweep of a function finds its fullest plan within S × (V + 1) takes; it faults only if there is no good plan
abbrev pub Swept : Program → ℕ → Answer → Type 0
Swept P f (bad e) = Planless P f
Swept P f (good r) = Settled P f r.0 × (r.1 ≤ most P f (starts_at P f))

-- ## A program

-- every function has a good plan
abbrev pub AllPlanned : Program → Type 0
AllPlanned P = (f : ℕ) → f < length P.functions → (plan : Plan) × Good P f plan

-- the sum of S × (V + 1) over n functions from number f on, and over all
abbrev pub most_from : Program → ℕ → ℕ → ℕ
most_from P zero f = 0
most_from P (suc n) f = most P f (starts_at P f) + most_from P n (suc f)

abbrev pub most_takes : Program → ℕ
most_takes P = most_from P (length P.functions) 0

-- accepted: a settled table for each function, in pool order
pub record Accepted (P : Program) (tables : List Table) (takes : ℕ) : Type 0 where
  pub count : length tables ≡ length P.functions
  pub settled : (f : ℕ) → f < length P.functions → Settled P f (slice_index_or tables f [])
  pub few : takes ≤ most_takes P

abbrev pub Decodes : Program → ℕ → Type 0
Decodes P f = (marks : List Bool) × (starts_of f (code_at P f) ≡ good marks)

abbrev pub Answers : Program → ℕ → Type 0
Answers P f = (r : Table × ℕ) × (sweep_function P f ≡ good r)

-- f is the first function that cannot be decoded, with the fault e
pub record FirstUndecoded (P : Program) (f : ℕ) (e : Fault) : Type 0 where
  pub fault : starts_of f (code_at P f) ≡ bad e
  pub before : (g : ℕ) → g < f → Decodes P g

-- all functions can be decoded, and f is the first whose sweep faults, with the fault e
pub record FirstFaulty (P : Program) (f : ℕ) (e : Fault) : Type 0 where
  pub decoded : (g : ℕ) → g < length P.functions → Decodes P g
  pub fault : sweep_function P f ≡ bad e
  pub before : (g : ℕ) → g < f → Answers P g

-- refused: by the fault of the first such function, which has no good plan
pub record Refused (P : Program) (e : Fault) : Type 0 where
  pub function : ℕ
  pub named : e.1 ≡ function
  pub inside : function < length P.functions
  pub first : FirstUndecoded P function e ⊎ FirstFaulty P function e
  pub planless : Planless P function

abbrev pub Accepts : Judgement → Type 0
Accepts (bad e) = ⊥
Accepts (good r) = Unit {0}

abbrev pub Says : Program → Judgement → Type 0
Says P (bad e) = Refused P e
Says P (good r) = Accepted P r.0 r.1

-- the judgement of a program: accepted if and only if every function has a good plan
pub record Judged (P : Program) (outcome : Judgement) : Type 0 where
  pub says : Says P outcome
  pub accepts : AllPlanned P → Accepts outcome
  pub planned : Accepts outcome → AllPlanned P

-- ## The theorems

abbrev pub JudgementStands : Type 0
JudgementStands = (P : Program) → WellFormed P → Judged P (judge P)

abbrev pub SweepStands : Type 0
SweepStands = (P : Program) → WellFormed P → (f : ℕ) → Swept P f (sweep_function P f)

-- a sweep that may take more than S × (V + 1) places comes to the same
abbrev pub TakesSuffice : Type 0
TakesSuffice = (P : Program) → WellFormed P → (f : ℕ) (marks : List Bool) → starts_of f (code_at P f) ≡ good marks → (k : ℕ) → most P f marks ≤ k
    → sweep_within P f k marks ≡ sweep_marks P f marks

-- there is at most one fullest plan
abbrev pub OneFullest : Type 0
OneFullest = (P : Program) (f : ℕ) (plan other : Plan) → Fullest P f plan → Fullest P f other → (p : ℕ) → plan p ≡ other p

-- decoding marks the starts
abbrev pub StartsStand : Type 0
StartsStand = (f : ℕ) (code : List ℕ) (marks : List Bool) → starts_of f code ≡ good marks → Marked code marks

-- how many bytes of code n functions have, from number f on
abbrev pub bytes_from : Program → ℕ → ℕ → ℕ
bytes_from P zero f = 0
bytes_from P (suc n) f = length (code_at P f) + bytes_from P n (suc f)

-- a program of at most 4,096 code bytes has at most so many takes
abbrev pub TakesWithin : ℕ → Type 0
TakesWithin most = (P : Program) → WellFormed P → bytes_from P (length P.functions) 0 ≤ 4096 → most_takes P ≤ most
