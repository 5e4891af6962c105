-- Pictures sent in turn are a sender's list.
use Rattle.std.proofs.Common.{◌≡◌, ℕ, suc, ◌+◌, ◌%◌, ◌^◌, ◌<◌, List, [], ◌∷◌, ◌++◌, length}
use Rattle.std.proofs.Common.{append_assoc, refl, sym, ap, ◌∙◌, subst, arith}
use Rattle.std.proofs.lemmas.List.{append-nil, length-append}
use Rattle.st_format.specs.Picture.{Values}
use Rattle.packet_plan.specs.declared.run.PacketRun.{PacketRun}
use Rattle.packet_plan.specs.declared.stamp.Stamp.{Stamp}
use Rattle.packet_plan.specs.Sent.{AreSent, IsSentPicture}
use Rattle.packet_plan.specs.Sender.{Sender, stamp_of, SendsFrom, IsSenderList}

-- one datagram for each packet
length-sent : (p : Values) (stamp : Stamp) (i : ℕ) (qs : List (List PacketRun))
    (ds : List (List ℕ)) → AreSent ds p stamp i qs → length ds ≡ length qs
length-sent p stamp i [] [] sent = refl
length-sent p stamp i [] (d ∷ ds) sent = absurd sent
length-sent p stamp i (q ∷ qs) [] sent = absurd sent
length-sent p stamp i (q ∷ qs) (d ∷ ds) sent = ap suc (length-sent p stamp (i + 1) qs ds sent.1)

more_from : (s : Sender) (k first : ℕ) (ps : List Values) (ds : List (List ℕ)) (p : Values)
    (j number size : ℕ) (qs : List (List PacketRun)) (mine : List (List ℕ))
    → first < 2 ^ 32 → SendsFrom s k ps first ds → p.format ≡ s.format → j ≡ k + length ps
    → number ≡ (first + length ds) % 2 ^ 32
    → IsSentPicture mine p (stamp_of s j number) size qs
    → SendsFrom s k (ps ++ p ∷ []) first (ds ++ mine)
more_from s k first [] ds p j number size qs mine small sends format place count sent =
    let none : length ds ≡ 0 = ap length sends in
    let here : j ≡ k = omega arith in
    let same : number ≡ first = omega arith in
    record {
      size = size;
      packets = qs;
      mine = mine;
      others = [];
      format = format;
      picture =
          subst (λ (n : ℕ). IsSentPicture mine p (stamp_of s k n) size qs) same
          (subst (λ (i : ℕ). IsSentPicture mine p (stamp_of s i number) size qs) here sent);
      rest = refl;
      whole = ap (λ (xs : List (List ℕ)). xs ++ mine) sends ∙ sym (append-nil mine);
    }
more_from s k first (q ∷ ps) ds p j number size qs mine small sends format place count sent =
    let both : length ds ≡ length sends.mine + length sends.others =
    ap length sends.whole ∙ length-append sends.mine sends.others in
    let each : length sends.mine ≡ length sends.packets =
    length-sent q (stamp_of s k first) 0 sends.packets sends.mine sends.picture.sent in
    let next : ℕ = (first + length sends.packets) % 2 ^ 32 in
    let runs_on : number ≡ (next + length sends.others) % 2 ^ 32 = omega arith in
    record {
      size = sends.size;
      packets = sends.packets;
      mine = sends.mine;
      others = sends.others ++ mine;
      format = sends.format;
      picture = sends.picture;
      rest =
          more_from s (k + 1) next ps sends.others p j number size qs mine
          (omega arith) sends.rest format (omega arith) runs_on sent;
      whole =
          ap (λ (xs : List (List ℕ)). xs ++ mine) sends.whole
          ∙ append_assoc sends.mine sends.others mine;
    }

pub none_sent : (s : Sender) (first : ℕ) → IsSenderList [] s first []
none_sent s first = record { few = omega arith; sent = refl }

-- A list and the next picture's datagrams are a list of one picture more.
pub one_more_sent : (s : Sender) (first : ℕ) (ps : List Values) (ds : List (List ℕ)) (p : Values)
    (size : ℕ) (qs : List (List PacketRun)) (mine : List (List ℕ))
    → first < 2 ^ 32 → IsSenderList ds s first ps → length ps < 10000 → p.format ≡ s.format
    → IsSentPicture mine p (stamp_of s (length ps) ((first + length ds) % 2 ^ 32)) size qs
    → IsSenderList (ds ++ mine) s first (ps ++ p ∷ [])
one_more_sent s first ps ds p size qs mine small is few format sent = record {
  few = omega (arith, length-append ps (p ∷ []));
  sent =
      more_from s 0 first ps ds p (length ps)
      ((first + length ds) % 2 ^ 32) size qs mine small is.sent format (omega arith) refl sent;
}
