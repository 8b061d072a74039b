-- More memory changes a step only where it is stop 9 or 10.
use Rattle.std.proofs.Common.{◌≡◌, ℕ, suc, ◌+◌, ◌^◌, ◌≤◌, Bool, true, false, cond, ltb, leb, ◌⊎◌, List, [], ◌∷◌, ◌++◌, length, Some, None, Option, sym, refl, ap₂, inl, inr, arith, ltb-true, lt-ltb, le-leb, leb-true}
use Rattle.bytecode.specs.declared.instruction.Instruction.{Instruction}
use Rattle.bytecode.specs.declared.instruction.Instruction.TheVariants.{Invokestatic, New, Newarray}
use Rattle.bytecode.specs.Instructions.{size_of, decode_at}
use Rattle.bytecode.specs.Program.{Program, Function}
use Rattle.bytecode.specs.declared.stop.Stop.TheVariants.{Cells, Length}
use Rattle.bytecode.specs.Stops.{gives, stops}
use Rattle.heap.specs.Checked.{Heap, Layout, single, array, room, total, fresh, block, Allocation, allocate, newarray}
use Rattle.host.specs.Hosts.{Host}
use Rattle.plan.specs.Programs.{nth}
use Rattle.checked.specs.Runs.{Next, breaks}
use Rattle.checked.specs.Machine.{Value, word, reference, Frame, frame, Conf, conf, Sizes, reserve, reserved, arguments, pop_word, room_for, attempt, found, enter, exec, step}
use Rattle.checked.specs.Law.{NoLess}
use Rattle.checked.proofs.Running.{Capped}

-- the same, or stopped for want of memory
abbrev Grows : {C S : Type 0} → Next C S → Next C S → Type 0
Grows x y = (x ≡ y) ⊎ Capped x

grows_two : {C S : Type 0} (a b c d : Bool) (x z : Next C S) → Capped z → (a ≡ true → b ≡ true) → (c ≡ true → d ≡ true)
    → Grows (cond a (cond c x z) z) (cond b (cond d x z) z)
grows_two false b c d x z k f g = inr k
grows_two true b false d x z k f g = inr k
grows_two true b true d x z k f g = inl (sym (ap₂ (λ p q. cond p (cond q x z) z) (f refl) (g refl)))

-- an allocation under more memory: the same, or a stop for want of it
module _ (cells records more_cells more_records : ℕ) (le : cells ≤ more_cells) (lr : records ≤ more_records) where
  allocate_grows : {S : Type 0} (h : Heap) (how : Layout) (s : S) (k : Allocation → Next Conf S)
      → Grows (attempt (allocate cells records h how) s k) (attempt (allocate more_cells more_records h how) s k)
  allocate_grows h how s k =
      go (leb (total h + room how) cells) (leb (total h + room how) more_cells) (ltb (length h) records) (ltb (length h) more_records)
      (λ e. let p = leb-true (total h + room how) cells e in le-leb (total h + room how) more_cells (omega arith))
      (λ e. let p = ltb-true (length h) records e in lt-ltb (length h) more_records (omega arith))
    where
      made : Allocation
      made = record { heap = h ++ (record { layout = how; cells = fresh how } ∷ []); reference = block (length h) 0 }

      go : (a b c d : Bool) → (a ≡ true → b ≡ true) → (c ≡ true → d ≡ true)
          → Grows (attempt (cond a (cond c (gives made) (stops Cells)) (stops Cells)) s k)
          (attempt (cond b (cond d (gives made) (stops Cells)) (stops Cells)) s k)
      go false b c d f g = inr (λ x. x)
      go true b false d f g = inr (λ x. x)
      go true b true d f g = inl (sym (ap₂ (λ p q. attempt (cond p (cond q (gives made) (stops Cells)) (stops Cells)) s k) (f refl) (g refl)))

module _ {S : Type 0} where
  grows_room : (st : List Value) (s : S) (x y : Next Conf S) → Grows x y → Grows (room_for st s x) (room_for st s y)
  grows_room st s x y g = go (ltb (length st) 32)
    where
      go : (b : Bool) → Grows (cond b x (breaks s)) (cond b y (breaks s))
      go true = g
      go false = inl refl

  grows_found : {A : Type 0} (o : Option A) (s : S) (x y : A → Next Conf S) → ((a : A) → Grows (x a) (y a)) → Grows (found o s x) (found o s y)
  grows_found None s x y g = inl refl
  grows_found (Some a) s x y g = g a

  grows_word : (st : List Value) (s : S) (x y : ℕ → List Value → Next Conf S) → ((n : ℕ) (t : List Value) → Grows (x n t) (y n t))
      → Grows (pop_word st s x) (pop_word st s y)
  grows_word [] s x y g = inl refl
  grows_word (word n ∷ st) s x y g = g n st
  grows_word (reference r ∷ st) s x y g = inl refl

  module _ (P : Program) (host : Host S) (sizes more : Sizes) (le : NoLess sizes more) where
    enter_grows : (c : ℕ) (g : Function) (args : List Value) (f q : ℕ) (vs : List (Option Value)) (st : List Value) (rest : List Frame) (h : Heap) (s : S)
        → Grows (enter P host sizes c g args f q vs st rest h s) (enter P host more c g args f q vs st rest h s)
    enter_grows c g args f q vs st rest h s =
        let l = le.frames in
        let m = le.slots in
        grows_two (ltb (suc (length rest)) sizes.frames) (ltb (suc (length rest)) more.frames)
        (leb (reserve (Some g) + reserved P (frame f q vs st ∷ rest)) sizes.slots) (leb (reserve (Some g) + reserved P (frame f q vs st ∷ rest)) more.slots)
        _ _ (λ x. x)
        (λ e. let p = ltb-true (suc (length rest)) sizes.frames e in lt-ltb (suc (length rest)) more.frames (omega arith))
        (λ e. let p = leb-true (reserve (Some g) + reserved P (frame f q vs st ∷ rest)) sizes.slots e in
        le-leb (reserve (Some g) + reserved P (frame f q vs st ∷ rest)) more.slots (omega arith))

    newarray_grows : (h : Heap) (b n : ℕ) (s : S) (k : Allocation → Next Conf S)
        → Grows (attempt (newarray sizes.cells sizes.records h b n) s k) (attempt (newarray more.cells more.records h b n) s k)
    newarray_grows h b n s k = go (ltb n (2 ^ 31))
      where
        go : (t : Bool) → Grows (attempt (cond t (allocate sizes.cells sizes.records h (array n b)) (stops Length)) s k)
            (attempt (cond t (allocate more.cells more.records h (array n b)) (stops Length)) s k)
        go true = allocate_grows sizes.cells sizes.records more.cells more.records le.cells le.records h (array n b) s k
        go false = inl refl

    exec_grows : (i : Instruction) (f p q : ℕ) (vs : List (Option Value)) (st : List Value) (rest : List Frame) (h : Heap) (s : S)
        → Grows (exec P host sizes i f p q vs st rest h s) (exec P host more i f p q vs st rest h s)
    unfolding exec
    exec_grows (Invokestatic c) f p q vs st rest h s =
        grows_found (nth P.functions c) s _ _ (λ g. grows_found (arguments g.signature st) s _ _ (λ a.
        grows_room a.left s _ _ (enter_grows c g a.values f q vs a.left rest h s)))
    exec_grows (New b) f p q vs st rest h s =
        grows_room st s _ _ (allocate_grows sizes.cells sizes.records more.cells more.records le.cells le.records h (single b) s _)
    exec_grows (Newarray b) f p q vs st rest h s = grows_word st s _ _ (λ n t. newarray_grows h b n s _)
    exec_grows i f p q vs st rest h s = inl refl

    pub step_grows : (c : Conf) (s : S) → Grows (step P host sizes c s) (step P host more c s)
    step_grows (conf (frame f p vs st) rest h) s =
        grows_found (nth P.functions f) s _ _ (λ g. grows_found (decode_at g.code p) s _ _ (λ i. exec_grows i f p (p + size_of i) vs st rest h s))
