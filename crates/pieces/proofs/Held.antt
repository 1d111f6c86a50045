-- A stream's octets as they are read behind those held, and handed on in whole pieces.
use Rattle.std.proofs.Common.{◌≡◌, ◌+◌, ◌-◌, ◌*◌, ◌/◌, ◌%◌, ◌≤◌, ℕ, List, [], ◌++◌, Option, Some, None, IfSome, arith, refl, length, take, drop, length-drop, sym, ap, ◌∙◌, subst, append_assoc, append-nil, length-append, length-take-le, take-add, take_at}
use Rattle.std.proofs.Math.Nat.{add-mul, mod-le}
use Rattle.std.proofs.lemmas.Nat.{div-add-mod'}
use Rattle.std.proofs.Math.Seq.{take-append-le, take-append-add}
use Rattle.std.specs.Io.KnownBytes.{Consumes, IsAtEnd}
use borrow.Rule.Slice.PartMut.{put_mid, post_of}
use Rattle.octets.specs.Octets.{to_front}
use Rattle.octets.proofs.ToFront.{to_front_in}
use Rattle.pieces.specs.Steps.{ReadOn, WentOn}

-- nothing is consumed yet
pub consumes-none : (known : Option (List ℕ)) → Consumes known known []
consumes-none None = tt
consumes-none (Some x) = refl

consumes-then : (a b c : Option (List ℕ)) (x y : List ℕ) → Consumes a b x → Consumes b c y → Consumes a c (x ++ y)
consumes-then None b c x y p q = tt
consumes-then (Some u) None c x y p q = absurd p
consumes-then (Some u) (Some v) None x y p q = absurd q
consumes-then (Some u) (Some v) (Some w) x y p q = p ∙ ap (λ l. x ++ l) q ∙ sym (append_assoc x y w)

-- what was consumed at the end is all that was known
consumes-all : (a b : Option (List ℕ)) (x : List ℕ) (P : List ℕ → Type 0) → Consumes a b x → IsAtEnd b → P x → IfSome a P
consumes-all None b x P p q h = tt
consumes-all (Some u) None x P p q h = absurd p
consumes-all (Some u) (Some v) x P p q h = subst P (sym (p ∙ ap (λ l. x ++ l) q ∙ append-nil x)) h

-- the first octets of a buffer that was read into from h on
pub take-read : (h k n : ℕ) (s x : List ℕ) → h ≤ length s → n ≤ length x → take (h + n) (put_mid h k s x) ≡ take h s ++ take n x
take-read h k n s x held fits =
    let front : h + n ≡ length (take h s) + n = omega (arith, length-take-le h s held) in
    ap (λ m. take m (put_mid h k s x)) front ∙ take-append-add (take h s) (x ++ post_of h k s) n ∙ ap (λ l. take h s ++ l) (take-append-le n x _ fits)

-- the whole pieces, and behind them what is left at the front
take-left : (m n : ℕ) (t : List ℕ) → m ≤ n → n ≤ length t → take m t ++ take (n - m) (to_front m (n - m) t) ≡ take n t
take-left m n t within fits =
    let both : m + (n - m) ≡ n = omega arith in
    let part : length (take (n - m) (drop m t)) ≡ n - m = length-take-le (n - m) (drop m t) (omega (arith, length-drop m t)) in
    ap (λ l. take m t ++ take (n - m) l) (to_front_in m (n - m) t (omega arith))
    ∙ ap (λ l. take m t ++ l) (take_at (take (n - m) (drop m t)) _ (n - m) part)
    ∙ sym (take-add m (n - m) t)
    ∙ ap (λ i. take i t) both

-- what a turn makes of the octets read, where n whole pieces of them were taken and the others put to the front
pub went_on : {Taken : List ℕ → Type 0} (size n h total at : ℕ) (s t u : List ℕ) (known rest : Option (List ℕ)) → n * size ≤ total
    → at ≡ n * size → u ≡ to_front at (total - n * size) t
    → ReadOn known rest h total s t → Taken (take (n * size) t) → WentOn size known rest (take h s) (total - n * size) u Taken
went_on size n h total at s t u known rest within placed moved read took = record {
  octets = read.octets;
  whole = take (n * size) t;
  n = n;
  pieces = length-take-le (n * size) t (omega (arith, read.fits));
  taken = took;
  holds = ap (λ l. take (n * size) t ++ take (total - n * size) l) (subst (λ m. u ≡ to_front m (total - n * size) t) placed moved) ∙ take-left (n * size) total t within read.fits ∙ read.holds;
  consumed = read.consumed;
}

-- whole pieces, w of them, were taken before, and with these n there are w + n
pub whole-append : (size w n : ℕ) (x y : List ℕ) → length x ≡ w * size → length y ≡ n * size → length (x ++ y) ≡ (w + n) * size
whole-append size w n x y before these = rw (length-append, before, these, add-mul) refl

-- the next turn: what was read behind the octets held is consumed, and its whole pieces y are taken before those held then
pub consumes-turn : (x held y octets then : List ℕ) (known now rest : Option (List ℕ)) → y ++ then ≡ held ++ octets → Consumes known now (x ++ held) → Consumes now rest octets
    → Consumes known rest ((x ++ y) ++ then)
consumes-turn x held y octets then known now rest holds before consumed =
    let all : (x ++ held) ++ octets ≡ (x ++ y) ++ then = append_assoc x held octets ∙ ap (λ l. x ++ l) (sym holds) ∙ sym (append_assoc x y then) in
    subst (Consumes known rest) all (consumes-then known now rest _ _ before consumed)

-- ---- the same of a turn by the n octets that it has in the buffer

-- whole pieces, w of them, were taken before, and with these there are w + n / size
pub whole-next : (size w n : ℕ) (x t : List ℕ) → length x ≡ w * size → n ≤ length t → length (x ++ take (n - n % size) t) ≡ (w + n / size) * size
whole-next size w n x t whole fits =
    let pieces : n / size * size + n % size ≡ n = div-add-mod' n size in
    whole-append size w (n / size) x (take (n - n % size) t) whole (length-take-le (n - n % size) t (omega arith) ∙ omega (arith, pieces))

-- the next turn: what was read behind the octets held is consumed, and its whole pieces are taken before what is left at the front
pub consumes-next : (size h n : ℕ) (x s t : List ℕ) (known now rest : Option (List ℕ)) → Consumes known now (x ++ take h s) → ReadOn now rest h n s t
    → Consumes known rest ((x ++ take (n - n % size) t) ++ take (n % size) (to_front (n - n % size) (n % size) t))
consumes-next size h n x s t known now rest before read =
    let whole = n - n % size in
    let left : n % size ≡ n - whole = omega (arith, mod-le n size) in
    let held : take whole t ++ take (n % size) (to_front whole (n % size) t) ≡ take h s ++ read.octets =
    subst (λ k. take whole t ++ take k (to_front whole k t) ≡ take n t) (sym left) (take-left whole n t (omega arith) read.fits) ∙ read.holds in
    consumes-turn x (take h s) (take whole t) read.octets _ known now rest held before read.consumed

-- the last turn: with the octets held, all that was known is there
pub consumes-end : (h n : ℕ) (x s t : List ℕ) (known now rest : Option (List ℕ)) (P : List ℕ → Type 0) → n ≡ h
    → Consumes known now (x ++ take h s) → ReadOn now rest h n s t → P (x ++ take h t) → IfSome known P
consumes-end h n x s t known now rest P same before read proved =
    let all : take h t ≡ take h s ++ read.octets = ap (λ k. take k t) (sym same) ∙ read.holds in
    let consumed = consumes-turn x (take h s) (take h t) read.octets [] known now rest (append-nil (take h t) ∙ all) before read.consumed in
    consumes-all known rest _ P consumed (read.ended same) (subst P (sym (append-nil (x ++ take h t))) proved)
