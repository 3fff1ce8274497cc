-- A frame that was read into the front of a buffer.
use Rattle.std.proofs.Common.{◌≡◌, ◌∙◌, ℕ, ◌≤◌, List, ◌++◌, length, take, Option, Some, None, append_assoc, sym, ap, arith}
use Rattle.std.proofs.lemmas.List.{take_all}
use Rattle.std.specs.Io.KnownBytes.{Consumes}
use Rattle.byteorder.specs.Endian.{big_number}
use Rattle.wf_serve.specs.Reading.{ReadsNext}
use Rattle.wf_serve.specs.declared.input.Next.TheVariants as next

module _ (head content buffer : List ℕ) (found more count : ℕ) (four : length head ≡ 4) (least : 4 ≤ found) (most : found ≤ length head)
    (counted : count ≡ big_number 4 head) (long : length content ≡ count) (all : count ≤ more) (within : more ≤ length content)
    (front : take count buffer ≡ content) where
  whole_head : take found head ≡ head
  whole_head = take_all found head (omega (arith, four, least))

  whole_content : take more content ≡ content
  whole_content = take_all more content (omega (arith, long, all))

  pub frame_so : (old mid new : Option (List ℕ)) → Consumes old mid (take found head) → Consumes mid new (take more content)
      → ReadsNext old new buffer (next.Frame count)
  frame_so None mid new first second = tt
  frame_so (Some bytes) None new first second = absurd first
  frame_so (Some bytes) (Some middle) None first second = absurd second
  frame_so (Some bytes) (Some middle) (Some rest) first second =
      record {
        first = head ++ content;
        frame = record {
          head = head;
          four = four;
          count = sym counted ∙ sym long ∙ ap length (sym front);
          parts = ap (λ l. head ++ l) (sym front);
        };
        parts = first ∙ ap (λ l. l ++ middle) whole_head ∙ ap (λ l. head ++ l) (second ∙ ap (λ l. l ++ rest) whole_content)
            ∙ sym (append_assoc head content rest);
      }
