-- A text between quotes, byte by byte and part by part.
use Rattle.std.proofs.Common.{◌≡◌, ℕ, List, [], ◌∷◌, ◌++◌, Bor, map, refl, ap, sym, ◌∙◌}
use Rattle.std.proofs.lemmas.Grind.{flat_map-append}
use Rattle.json.specs.Print.{escape, escape_byte}
use Rattle.jb_text.specs.TextParts.{spelled}
use Rattle.jb_json.specs.Pieces.{escaped_text}

-- the bytes of a text, one after the other
pub escaped-whole : (text : List ℕ) → escaped_text text ≡ escape text
escaped-whole [] = refl
escaped-whole (byte ∷ text) = ap (λ rest. escape_byte byte ++ rest) (escaped-whole text)

-- the parts of a text, one after the other
pub inside-whole : (parts : List (Bor (List ℕ)))
    → spelled (map (λ part. escaped_text part.now) parts) ≡ escape (spelled (map (λ part. part.now) parts))
inside-whole [] = refl
inside-whole (part ∷ parts) =
    ap (λ text. text ++ spelled (map (λ (p : Bor (List ℕ)). escaped_text p.now) parts)) (escaped-whole part.now)
    ∙ ap (λ rest. escape part.now ++ rest) (inside-whole parts)
    ∙ sym (flat_map-append escape_byte part.now (spelled (map (λ (p : Bor (List ℕ)). p.now) parts)))
