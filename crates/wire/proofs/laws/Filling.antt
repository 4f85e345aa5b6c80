-- The loop that writes a message's entries: what is written so far and the entries of the fields to come are the entries of them all. The
-- message stands before the place where they go, so it does not change.
use Prim.Native.Nat.{ℕ, ◌+◌, ◌-◌, ◌/◌, ◌≤◌, ◌<◌}
use mathlib.Core.Path.{◌≡◌, refl, sym, ap, ◌∙◌}
use mathlib.Core.Bool.{Bool, true, false}
use mathlib.Core.List.{List, [], ◌++◌, append_assoc, append-nil}
use native.Mathlib.Omega.{arith}
use lib.ListN.{length, take, drop, length-append, length-drop}
use lib.Seq.{length-take-le}
use Rattle.numbers.specs.Choose.{choose}
use Rattle.protobuf.specs.Stream.{Item, last, item, follow}
use Rattle.message.specs.Message.{Field, MessageEnd, message, message_from, field_at}
use Rattle.message.specs.Answers.{field_by}
use Rattle.numbers.specs.Little.{written}
use Rattle.numbers.proofs.laws.Little.{written_none, written-length, written-before, written_twice}
use Rattle.message.proofs.laws.Message.{message-from, fields-forward, field-within}
use Rattle.fields.specs.Parts.{is_part}
use Rattle.wire.specs.Tables.{entry, entries, Room}
use Rattle.fields.proofs.laws.Parts.{own-tag, other_tag}
use Rattle.fields.proofs.laws.Part.{lent, lent_is}
use Rattle.wire.proofs.laws.Tables.{entry_length, tail_back}

-- the message
abbrev pub part : List ℕ → ℕ → ℕ → List ℕ
part s base len = take len (drop base s)

pub record Filling (s : List ℕ) (base len tag to : ℕ) (b : List ℕ) (place at : ℕ) : Type 0 where
  pub room : Room s base len tag to
  pub done : List ℕ
  pub whole : entries base (tag / 8) (message (part s base len)) ≡ done ++ entries base (tag / 8) (message_from (part s base len) at)
  pub is : b ≡ written s to done
  pub there : place ≡ to + length done

module _ (s : List ℕ) (base len tag to : ℕ) (r : Room s base len tag to) where
  part_length : length (part s base len) ≡ len
  part_length = length-take-le len (drop base s) (simp length-drop (omega (arith, r.before, r.room)))

  pub fill_begins : Filling s base len tag to s to 0
  fill_begins = record {
    room = r;
    done = [];
    whole = refl;
    is = sym (written_none s to (omega (arith, r.room)));
    there = omega arith;
  }

module _ {s : List ℕ} {base len tag to : ℕ} {b : List ℕ} {place at : ℕ} (w : Filling s base len tag to b place at) where
  total : length (entries base (tag / 8) (message (part s base len))) ≡ length w.done + length (entries base (tag / 8) (message_from (part s base len) at))
  total = ap length w.whole ∙ length-append w.done _

  fits : to + length w.done ≤ length s
  fits = omega (arith, w.room.room, total)

  pub fill_length : length b ≡ length s
  fill_length = ap length w.is ∙ written-length s to w.done fits

  same-part : lent b base len ≡ part s base len
  same-part = lent_is b base len ∙ ap (λ (l : List ℕ). part l base len) w.is ∙ written-before s to w.done fits base len w.room.before

  on-part : {i : Item Field MessageEnd} → field_at (lent b base len) at ≡ i → field_at (part s base len) at ≡ i
  on-part e = ap (λ (l : List ℕ). field_at l at) (sym same-part) ∙ e

  -- the entries of the fields to come, by the item at the place
  coming : {i : Item Field MessageEnd} → field_at (lent b base len) at ≡ i → entries base (tag / 8) (message_from (part s base len) at) ≡ entries base (tag / 8) (follow i (message_from (part s base len)))
  coming e =
      ap (entries base (tag / 8))
      (message-from (part s base len) at ∙ ap (λ (i : Item Field MessageEnd). follow i (message_from (part s base len))) (on-part e))

  pub fill_ends : {x : MessageEnd} → field_at (lent b base len) at ≡ last x → b ≡ written s to (entries base (tag / 8) (message (part s base len)))
  unfolding entries
  fill_ends e =
      w.is
      ∙ ap (written s to) (sym (w.whole ∙ ap (λ (l : List ℕ). w.done ++ l) (coming e) ∙ append-nil w.done))

  module _ (t : ℕ) {value start n q : ℕ} (e : field_at (lent b base len) at ≡ item (field_by t value start n) q) where
    pub fill_further : (at < q) × (q ≤ len)
    fill_further = omega (arith, (fields-forward (part s base len)).moves at q _ (on-part e), part_length s base len tag to w.room)

    pub fill_within : start + n ≤ len
    fill_within = omega (arith, field-within (part s base len) at _ q (on-part e), part_length s base len tag to w.room)

    other : (t ≡ tag → ⊥) → is_part (tag / 8) (field_by t value start n) ≡ false
    other h = other_tag tag w.room.parts t h

    own : t ≡ tag → is_part (tag / 8) (field_by t value start n) ≡ true
    own h = own-tag tag w.room.parts t h

    abbrev chosen : Bool → List ℕ
    chosen x = choose x (entry (base + start) n) [] ++ entries base (tag / 8) (message_from (part s base len) q)

    pub fill_skips : (t ≡ tag → ⊥) → Filling s base len tag to b place q
    unfolding entries
    fill_skips h = record {
      room = w.room;
      done = w.done;
      whole = w.whole ∙ ap (λ (l : List ℕ). w.done ++ l) (coming e ∙ ap chosen (other h));
      is = w.is;
      there = w.there;
    }

    module _ (h : t ≡ tag) where
      next : entries base (tag / 8) (message (part s base len)) ≡ (w.done ++ entry (base + start) n) ++ entries base (tag / 8) (message_from (part s base len) q)
      unfolding entries
      next =
          w.whole
          ∙ ap (λ (l : List ℕ). w.done ++ l) (coming e ∙ ap chosen (own h))
          ∙ sym (append_assoc w.done (entry (base + start) n) _)

      space : to + length w.done + 8 ≤ length s
      space = omega (arith, w.room.room, ap length next ∙ length-append (w.done ++ entry (base + start) n) _, length-append w.done (entry (base + start) n), entry_length (base + start) n)

      pub fill_room : place + 8 ≤ length b
      fill_room = omega (arith, space, fill_length, w.there)

      -- ys is what the tail holds that was lent
      pub fill_writes : (ys : List ℕ) → ys ≡ written (take (length b - place) (drop place b)) 0 (entry (base + start) n) → Filling s base len tag to (take place b ++ (ys ++ drop (length b - place) (drop place b))) (place + 8) q
      fill_writes ys g = record {
        room = w.room;
        done = w.done ++ entry (base + start) n;
        whole = next;
        is =
            tail_back b place (entry (base + start) n) ys g
            ∙ (λ i. written (w.is i) (w.there i) (entry (base + start) n))
            ∙ written_twice s to w.done (entry (base + start) n) (omega (arith, space, entry_length (base + start) n));
        there = omega (arith, w.there, length-append w.done (entry (base + start) n), entry_length (base + start) n);
      }
