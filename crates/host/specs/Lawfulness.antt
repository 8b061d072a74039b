-- The drive and the line host keep the laws of hosts: proofs, which the hosts in code hand over.
use Rattle.std.specs.Prelude.{◌≡◌, ℕ, Bool, true, false, cond, List, [], ◌∷◌, Some, None, Option, ◌==◌, nat_lt, refl}
use Rattle.std.proofs.Common.{sym, ap, subst, arith}
use borrow.Author.Tests.{clash}
use Rattle.bytecode.specs.Program.{Signature}
use Rattle.bytecode.specs.declared.kind.Kind.{Kind}
use Rattle.bytecode.specs.declared.kind.Kind.TheVariants.{Word, Reference}
use Rattle.host.specs.declared.call.Argument.{Argument}
use Rattle.host.specs.declared.call.Reply.{Reply}
use Rattle.host.specs.Hosts.{Lawful, Suits, fits, fitting, references, stop_with}
use Rattle.host.specs.Arguments.{takes, one_word, two_words, one_reference, two_references}
use Rattle.host.specs.Drives
use Rattle.host.specs.Drives.{getting, setting, word_at, drive_replies, drive_becomes, drive_host}
use Rattle.host.specs.Lines
use Rattle.host.specs.Lines.{Line, printing, has_room, longer, line_replies, line_becomes, line_host}

-- ## Arguments that do not fit are not what a host takes them apart into

pub not_one_word : (given : List Argument) → fits (Word ∷ []) given ≡ false → one_word given ≡ None
not_one_word [] e = refl
not_one_word (Argument.Word w ∷ []) e = absurd (clash (sym e))
not_one_word (Argument.Word w ∷ a ∷ rest) e = refl
not_one_word (Argument.Reference null ∷ rest) e = refl

not_two_words : (given : List Argument) → fits (Word ∷ Word ∷ []) given ≡ false → two_words given ≡ None
not_two_words [] e = refl
not_two_words (Argument.Reference null ∷ rest) e = refl
not_two_words (Argument.Word v ∷ []) e = refl
not_two_words (Argument.Word v ∷ Argument.Reference null ∷ rest) e = refl
not_two_words (Argument.Word v ∷ Argument.Word w ∷ []) e = absurd (clash (sym e))
not_two_words (Argument.Word v ∷ Argument.Word w ∷ a ∷ rest) e = refl

not_one_reference : (given : List Argument) → fits (Reference ∷ []) given ≡ false → one_reference given ≡ false
not_one_reference [] e = refl
not_one_reference (Argument.Word w ∷ rest) e = refl
not_one_reference (Argument.Reference null ∷ []) e = absurd (clash (sym e))
not_one_reference (Argument.Reference null ∷ a ∷ rest) e = refl

not_two_references : (given : List Argument) → fits (Reference ∷ Reference ∷ []) given ≡ false → two_references given ≡ false
not_two_references [] e = refl
not_two_references (Argument.Word w ∷ rest) e = refl
not_two_references (Argument.Reference null ∷ []) e = refl
not_two_references (Argument.Reference null ∷ Argument.Word w ∷ rest) e = refl
not_two_references (Argument.Reference null ∷ Argument.Reference other ∷ []) e = absurd (clash (sym e))
not_two_references (Argument.Reference null ∷ Argument.Reference other ∷ a ∷ rest) e = refl

-- ## The drive host

read_suits : (b : Bool) (words : List ℕ) (i n : ℕ) → Suits Word n (cond b (Reply.Word (word_at words i)) (stop_with 1))
read_suits true words i n = Suits.word (omega arith)
read_suits false words i n = Suits.stop

drive_suits : (words : List ℕ) (r : Drives.Request) (n : ℕ) → Suits Word n (drive_replies words r)
drive_suits words (Drives.get i) n = read_suits (nat_lt i 32) words i n
drive_suits words (Drives.set i w) n = read_suits (nat_lt i 32) words i n
drive_suits words Drives.other n = Suits.stop

drive_suits_result : (words : List ℕ) (r : Drives.Request) (n : ℕ) (k : Kind) → Word ≡ k → Suits k n (drive_replies words r)
drive_suits_result words r n k e = subst (λ kind. Suits kind n (drive_replies words r)) e (drive_suits words r n)

drive_gives_word : (a b : Bool) (g : Signature) → cond a (takes (Word ∷ []) Word) (cond b (takes (Word ∷ Word ∷ []) Word) None) ≡ Some g → Word ≡ g.result
drive_gives_word true b g e = cc
drive_gives_word false true g e = cc
drive_gives_word false false g e = cc

drive_asks_nothing : (a b : Bool) (given : List Argument) → fitting (cond a (takes (Word ∷ []) Word) (cond b (takes (Word ∷ Word ∷ []) Word) None)) given ≡ false →
    cond a (getting (one_word given)) (cond b (setting (two_words given)) Drives.other) ≡ Drives.other
drive_asks_nothing true b given e = ap getting (not_one_word given e)
drive_asks_nothing false true given e = ap setting (not_two_words given e)
drive_asks_nothing false false given e = refl

pub drive_lawful : Lawful drive_host
drive_lawful = record {
  suits = λ words call g signed fit. drive_suits_result words (Drives.request_of call) (references call.arguments) g.result (drive_gives_word (call.index == 0) (call.index == 1) g signed);
  misfit = λ words call e. ap (drive_replies words) (drive_asks_nothing (call.index == 0) (call.index == 1) call.arguments e);
  keeps = λ words call e. ap (drive_becomes words) (drive_asks_nothing (call.index == 0) (call.index == 1) call.arguments e);
}

-- ## The line host

two_references_lem : (given : List Argument) → fits (Reference ∷ Reference ∷ []) given ≡ true → references given ≡ 2
two_references_lem [] e = absurd (clash e)
two_references_lem (Argument.Word w ∷ rest) e = absurd (clash e)
two_references_lem (Argument.Reference null ∷ []) e = absurd (clash e)
two_references_lem (Argument.Reference null ∷ Argument.Word w ∷ rest) e = absurd (clash e)
two_references_lem (Argument.Reference null ∷ Argument.Reference other ∷ []) e = refl
two_references_lem (Argument.Reference null ∷ Argument.Reference other ∷ a ∷ rest) e = absurd (clash e)

write_suits : (room : Bool) (n : ℕ) → Suits Word n (cond room (Reply.Word 0) (stop_with 3))
write_suits true n = Suits.word (omega arith)
write_suits false n = Suits.stop

print_suits : (fit : Bool) (line : Line) (bytes : List ℕ) (n : ℕ) → Suits Word n (line_replies line (cond fit (Lines.write bytes) Lines.other))
print_suits true line bytes n = write_suits (has_room line bytes) n
print_suits false line bytes n = Suits.stop

number_suits : (word : Option ℕ) (line : Line) (n : ℕ) → Suits Word n (line_replies line (printing word))
number_suits None line n = Suits.stop
number_suits (Some w) line n = write_suits (has_room line _) n

longer_suits : (b : Bool) (n : ℕ) → n ≡ 2 → Suits Reference n (cond b (Reply.Argument 1) (Reply.Argument 0))
longer_suits true n e = Suits.argument (omega arith)
longer_suits false n e = Suits.argument (omega arith)

pick_suits : (fit : Bool) (line : Line) (first second : List ℕ) (n : ℕ) → n ≡ 2 → Suits Reference n (line_replies line (cond fit (Lines.pick first second) Lines.other))
pick_suits true line first second n e = longer_suits (nat_lt _ _) n e
pick_suits false line first second n e = Suits.stop

with_result : (k : Kind) (g : Signature) (n : ℕ) (r : Reply) → k ≡ g.result → Suits k n r → Suits g.result n r
with_result k g n r e s = subst (λ kind. Suits kind n r) e s

line_suits : (a b d : Bool) (line : Line) (given : List Argument) (first second : List ℕ) (g : Signature) →
    cond a (takes (Reference ∷ []) Word) (cond b (takes (Word ∷ []) Word) (cond d (takes (Reference ∷ Reference ∷ []) Reference) None)) ≡ Some g →
    fits g.arguments given ≡ true →
    Suits g.result (references given)
    (line_replies line (
    cond a (cond (one_reference given) (Lines.write first) Lines.other) (
    cond b (printing (one_word given)) (
    cond d (cond (two_references given) (Lines.pick first second) Lines.other) Lines.other))))
line_suits true b d line given first second g e fit =
    with_result Word g (references given) _ (cc) (print_suits (one_reference given) line first (references given))
line_suits false true d line given first second g e fit = with_result Word g (references given) _ (cc) (number_suits (one_word given) line (references given))
line_suits false false true line given first second g e fit =
    let kinds : g.arguments ≡ Reference ∷ Reference ∷ [] = cc in
    let two : references given ≡ 2 = two_references_lem given (subst (λ ks. fits ks given ≡ true) kinds fit) in
    with_result Reference g (references given) _ (cc) (pick_suits (two_references given) line first second (references given) two)
line_suits false false false line given first second g e fit = let z : ◌≡◌ {A = ℕ} 0 1 = cc in absurd (let f : ⊥ = omega arith in f)

line_asks_nothing : (a b d : Bool) (given : List Argument) (first second : List ℕ) →
    fitting (cond a (takes (Reference ∷ []) Word) (cond b (takes (Word ∷ []) Word) (cond d (takes (Reference ∷ Reference ∷ []) Reference) None))) given ≡ false →
    cond a (cond (one_reference given) (Lines.write first) Lines.other) (
    cond b (printing (one_word given)) (
    cond d (cond (two_references given) (Lines.pick first second) Lines.other) Lines.other)) ≡ Lines.other
line_asks_nothing true b d given first second e = ap (λ fit. cond fit (Lines.write first) Lines.other) (not_one_reference given e)
line_asks_nothing false true d given first second e = ap printing (not_one_word given e)
line_asks_nothing false false true given first second e = ap (λ fit. cond fit (Lines.pick first second) Lines.other) (not_two_references given e)
line_asks_nothing false false false given first second e = refl

pub line_lawful : Lawful line_host
line_lawful = record {
  suits = λ line call g signed fit.
      line_suits (call.index == 16) (call.index == 17) (call.index == 18) line call.arguments call.first.bytes call.second.bytes g signed fit;
  misfit = λ line call e. ap (line_replies line)
      (line_asks_nothing (call.index == 16) (call.index == 17) (call.index == 18) call.arguments call.first.bytes call.second.bytes e);
  keeps = λ line call e. ap (line_becomes line)
      (line_asks_nothing (call.index == 16) (call.index == 17) (call.index == 18) call.arguments call.first.bytes call.second.bytes e);
}
