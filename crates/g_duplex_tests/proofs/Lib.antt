mod OneReel
