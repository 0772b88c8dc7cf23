mod OneFrame
