-- Sizes that are allowed, and the state that a machine is started in: it is ready.
use Rattle.std.proofs.Common.{◌≡◌, ◌+◌, ◌<◌, ◌≤◌, true, false, ltb, leb, [], get_or, refl, ap, subst, arith, ltb-true, lt-ltb, le-leb, leb-true}
use borrow.Author.Tests.{lt-leb}
use Rattle.std.proofs.lemmas.Bool.{and_parts, and_from, and_right}
use Rattle.std.proofs.lemmas.Option.{slice_get_within, get_or_from_slice_get}
use Rattle.std.proofs.ByRecursion.{All-get_or}
use Rattle.bytecode.specs.Program.{Function}
use Rattle.bytecode.specs.Program as bytecode
use Rattle.plan.specs.Programs.{nth, variables_at}
use Rattle.reader.specs.declared.package.Package.{Package}
use Rattle.reader.specs.View.{program_of, no_function, FunctionFormed}
use Rattle.reader.proofs.Fits.{fitting_of}
use Rattle.checked.specs.Machine.{Sizes, reserve}
use Rattle.runtime.specs.Runtime.{begins}
use Rattle.runtime.specs.Law.{sizes_of, Enough}
use Rattle.checked.specs.Law.{Plans}
use Rattle.plan.specs.Sweep.{plan_of}
use Rattle.verifier.specs.declared.program.Program.{Program}
use Rattle.verifier.specs.Checking.{Checked, meaning_of}
use Rattle.law.proofs.Admitting.{small, accepted, swept}
use Rattle.ready.specs.Ready.{Short, Ready}
use Rattle.ready.proofs.Staying.{nth_function}
use Rattle.ready.proofs.Beginning.{begins_ready}
use Rattle.execution.specs.declared.Lent.{Lent}
use Rattle.machine.specs.View.{memory_in}
use Rattle.machine.specs.Sizes.{sizes_allowed}

pub record Allowed (P : bytecode.Program) (sizes : Sizes) : Type 0 where
  pub slots : sizes.slots ≤ 8192
  pub some : 1 ≤ sizes.frames
  pub frames : sizes.frames ≤ 64
  pub cells : sizes.cells ≤ 4096
  pub records : sizes.records ≤ 1024
  pub main : reserve (nth P.functions 0) ≤ sizes.slots

pub allowed_sizes : (P : bytecode.Program) (sizes : Sizes) → sizes_allowed P sizes ≡ true → Allowed P sizes
allowed_sizes P sizes e =
    let a = and_parts (leb sizes.slots 8192) _ e in
    let b = and_parts (ltb 0 sizes.frames) _ a.1 in
    let c = and_parts (leb sizes.frames 64) _ b.1 in
    let d = and_parts (leb sizes.cells 4096) _ c.1 in
    let f = and_parts (leb sizes.records 1024) (leb (reserve (nth P.functions 0)) sizes.slots) d.1 in
    record {
      slots = leb-true sizes.slots 8192 a.0;
      some = let z = ltb-true 0 sizes.frames b.0 in omega arith;
      frames = leb-true sizes.frames 64 c.0;
      cells = leb-true sizes.cells 4096 d.0;
      records = leb-true sizes.records 1024 f.0;
      main = leb-true (reserve (nth P.functions 0)) sizes.slots f.1;
    }

pub sizes_allowed_lem : (P : bytecode.Program) (sizes : Sizes) → Allowed P sizes → sizes_allowed P sizes ≡ true
sizes_allowed_lem P sizes a =
    and_from _ _ (le-leb sizes.slots 8192 a.slots) (and_from _ _ (lt-ltb 0 sizes.frames (let z = a.some in omega arith)) (and_from _ _ (le-leb sizes.frames 64 a.frames)
    (and_from _ _ (le-leb sizes.cells 4096 a.cells) (and_from _ _ (le-leb sizes.records 1024 a.records) (le-leb (reserve (nth P.functions 0)) sizes.slots a.main)))))

-- what main's frame reserves does not fit
pub sizes_too_few : (P : bytecode.Program) (sizes : Sizes) → sizes.slots < reserve (nth P.functions 0) → sizes_allowed P sizes ≡ false
sizes_too_few P sizes lt =
    and_right (leb sizes.slots 8192) _ (and_right (ltb 0 sizes.frames) _ (and_right (leb sizes.frames 64) _ (and_right (leb sizes.cells 4096) _
    (and_right (leb sizes.records 1024) _ (lt-leb (reserve (nth P.functions 0)) sizes.slots lt)))))

pub short_codes : (p : Package) → Short (program_of p)
short_codes p f g e =
    let fs = (program_of p).functions in
    (subst FunctionFormed (get_or_from_slice_get fs f g no_function e)
    (All-get_or FunctionFormed fs f no_function (slice_get_within fs f g e) (fitting_of p).formed)).few

pub main_reserves : (p : Package) → reserve (nth (program_of p).functions 0) ≡ variables_at (program_of p) 0 + 32
main_reserves p =
    let h = fitting_of p in
    ap reserve (nth_function (program_of p) 0 (let a = h.some_functions in let b = h.function_count in omega arith))

pub start_enough : (p : Program) (m : Lent) → sizes_allowed (meaning_of p) (sizes_of (memory_in m)) ≡ true → Enough (meaning_of p) (memory_in m)
start_enough p m allowed =
    let fits = allowed_sizes (meaning_of p) (sizes_of (memory_in m)) allowed in
    let n = main_reserves p.contents in
    record {
      unused = record { used = refl; count = refl; cells = (let z = fits.cells in omega arith); records = (let z = fits.records in omega arith) };
      frames = fits.some;
      slots = let z = fits.main in omega arith;
    }

pub start_ready : (p : Program) → Checked p → (m : Lent) → sizes_allowed (meaning_of p) (sizes_of (memory_in m)) ≡ true
    → Ready (meaning_of p) (begins (meaning_of p) m.slots.now m.frames.now (memory_in m).storage)
start_ready p h m allowed =
    let fits = allowed_sizes (meaning_of p) (sizes_of (memory_in m)) allowed in
    let plans : Plans = λ f. plan_of (get_or h.tables f []) in
    begins_ready (meaning_of p) plans (accepted p plans (swept p h)) (memory_in m) (small p.contents) (short_codes p.contents) (start_enough p m allowed)
    (let z = fits.slots in omega arith) (let z = fits.frames in omega arith)
